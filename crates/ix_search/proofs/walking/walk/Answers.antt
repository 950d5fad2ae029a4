use Rattle.std.proofs.Common.{◌+◌, ℕ, Fits, w32, rules, refl, ap, subst, arith, ◌∙◌}
use Rattle.std.specs.FinMap.{get}
use Rattle.ix_cursor.specs.Cursors.{remaining}
use Rattle.ix_search.specs.Walking.{AreScoresBefore}
use Rattle.ix_search.proofs.WalkSteps.{scores_begin, first_after, left_on, found_step, found_last}
use Rattle.ix_search.proofs.walking.walk.Goals as goal

pub documents-init : goal.documents-init
documents-init c = record {
  low = omega arith;
  left = λ d late low. refl;
  scores = λ one. scores_begin (get c.args.rows.now) (remaining c.args.cursor.now) c.new-scores.result c.new-scores.ensures;
}

pub documents-preserved : goal.documents-preserved
documents-preserved c =
    let rows = c.args.rows.now in
    let after = first_after (remaining c.documents.cursor) c.documents.to c.in_ok-document.field-0 c.in-Some.document c.in-Some.is c.in_ok-document.ensures.found in
    let fits : Fits w32 c.in-Some.document.0 = search rules in
    record {
      low = omega (arith, fits);
      left = λ d late low.
          left_on (remaining c.documents.cursor) (remaining c.advance.new.self) c.in_ok-document.field-0 c.in-Some.document c.in-Some.is c.in_ok-document.ensures.left d late low
          ∙ c.documents.invariant.left d (omega (arith, late, after)) low;
      scores = λ one.
          found_step (get rows) (remaining c.args.cursor.now) (remaining c.documents.cursor) c.documents.to c.in_ok-document.field-0 c.in-Some.document c.score.result c.documents.scores c.score_document.new.scores
          c.in-Some.is c.in_ok-document.ensures.found one (c.documents.invariant.scores one) c.documents.invariant.left (c.score.ensures ∙ c.in_ok-document.ensures.score) (omega (arith, fits))
          c.in_ok-score_document.ensures;
    }

pub returns-in_default : goal.returns-in_default
returns-in_default c = λ one.
    found_last (get c.args.rows.now) (remaining c.args.cursor.now) (remaining c.documents.cursor) c.documents.to c.in_ok-document.field-0 c.documents.scores
    c.in_default.is c.in_ok-document.ensures.found one (c.documents.invariant.scores one) c.documents.invariant.left c.documents.invariant.low

pub returns-then-document : goal.returns-then-document
returns-then-document c = λ one.
    let rows = c.args.rows.now in
    let fits : Fits w32 c.in-Some.document.0 = search rules in
    subst (λ (n : ℕ). AreScoresBefore (get rows) (remaining c.args.cursor.now) n c.score_document.new.scores) (ap (λ (n : ℕ). n + 1) c.if-document.true)
    (found_step (get rows) (remaining c.args.cursor.now) (remaining c.documents.cursor) c.documents.to c.in_ok-document.field-0 c.in-Some.document c.score.result c.documents.scores c.score_document.new.scores
    c.in-Some.is c.in_ok-document.ensures.found one (c.documents.invariant.scores one) c.documents.invariant.left (c.score.ensures ∙ c.in_ok-document.ensures.score) (omega (arith, fits))
    c.in_ok-score_document.ensures)
