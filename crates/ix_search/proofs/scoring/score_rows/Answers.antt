use Rattle.std.proofs.Common.{◌+◌, ℕ, None, Fits, w32, rules, refl, ap, subst, arith, ◌∙◌}
use Rattle.ct_keep.specs.laws.Composing.{reads_none, reads_on, reads_hold}
use Rattle.ct_entry.specs.Keys.{at}
use Rattle.ix_docmap.specs.Readings.{row_at_document}
use Rattle.ix_cursor.specs.Cursors.{remaining}
use Rattle.ix_search.specs.Walking.{AreScoresBefore}
use Rattle.ix_search.proofs.WalkSteps.{scores_begin, first_after, left_on, found_step, found_last}
use Rattle.ix_search.proofs.scoring.score_rows.Goals as goal

pub documents-init : goal.documents-init
documents-init g c = record {
  reads = reads_none _ c.requires;
  at_most = record { texts = omega arith; rows = omega arith; rules = omega arith };
  low = omega arith;
  left = λ d late low. refl;
  scores = λ m told one. scores_begin (row_at_document (at m) c.args.index.now) (remaining c.args.cursor.now) c.new-scores.result c.new-scores.ensures;
}

pub documents-preserved : goal.documents-preserved
documents-preserved g c =
    let i = c.args.index.now in
    let old = g.K.Keeper.view c.args.keeper.now in
    let mid = g.K.Keeper.view c.documents.keeper in
    let a = c.documents.invariant.at_most in
    let b = c.in_ok-score_row.ensures.at_most in
    let after = first_after (remaining c.documents.cursor) c.documents.from c.in_ok-document.field-0 c.in-Some.document c.in-Some.is c.in_ok-document.ensures.found in
    let fits : Fits w32 c.in-Some.document.0 = search rules in
    record {
      reads = reads_on old mid (g.K.Keeper.view c.score_row.new.keeper) None c.documents.invariant.reads c.in_ok-score_row.ensures.reads;
      at_most = record { texts = omega (arith, a.texts, b.texts); rows = omega (arith, a.rows, b.rows); rules = omega (arith, a.rules, b.rules) };
      low = omega (arith, fits);
      left = λ d late low.
          left_on (remaining c.documents.cursor) (remaining c.advance.new.self) c.in_ok-document.field-0 c.in-Some.document c.in-Some.is c.in_ok-document.ensures.left d late low
          ∙ c.documents.invariant.left d (omega (arith, late, after)) low;
      scores = λ m told one.
          found_step (row_at_document (at m) i) (remaining c.args.cursor.now) (remaining c.documents.cursor) c.documents.from c.in_ok-document.field-0 c.in-Some.document c.score.result c.documents.scores c.score_row.new.scores
          c.in-Some.is c.in_ok-document.ensures.found one (c.documents.invariant.scores m told one) c.documents.invariant.left (c.score.ensures ∙ c.in_ok-document.ensures.score) (omega (arith, fits))
          (c.in_ok-score_row.ensures.scores m (reads_hold old mid m c.documents.invariant.reads told));
    }

pub returns-in_default-clause-scores : goal.returns-in_default-clause-scores
returns-in_default-clause-scores g c = λ m told one.
    found_last (row_at_document (at m) c.args.index.now) (remaining c.args.cursor.now) (remaining c.documents.cursor) c.documents.from c.in_ok-document.field-0 c.documents.scores
    c.in_default.is c.in_ok-document.ensures.found one (c.documents.invariant.scores m told one) c.documents.invariant.left c.documents.invariant.low

pub returns-then-document-clause-scores : goal.returns-then-document-clause-scores
returns-then-document-clause-scores g c = λ m told one.
    let row = row_at_document (at m) c.args.index.now in
    let fits : Fits w32 c.in-Some.document.0 = search rules in
    subst (λ (n : ℕ). AreScoresBefore row (remaining c.args.cursor.now) n c.score_row.new.scores) (ap (λ (n : ℕ). n + 1) c.if-document.true)
    (found_step row (remaining c.args.cursor.now) (remaining c.documents.cursor) c.documents.from c.in_ok-document.field-0 c.in-Some.document c.score.result c.documents.scores c.score_row.new.scores
    c.in-Some.is c.in_ok-document.ensures.found one (c.documents.invariant.scores m told one) c.documents.invariant.left (c.score.ensures ∙ c.in_ok-document.ensures.score) (omega (arith, fits))
    (c.in_ok-score_row.ensures.scores m (reads_hold _ _ m c.documents.invariant.reads told)))
