use Rattle.std.proofs.Common.{◌≡◌, true, false, List, sym, subst, ◌∙◌}
use Rattle.db_rows.specs.Sources.{is_key_source, source_of}
use Rattle.db_rows.specs.Checking.{cond_column}
use Rattle.std.specs.List.{list_all}
use Rattle.std.proofs.lemmas.List.{take_all}
use Rattle.st_parse.specs.declared.statements.Cond.{Cond}
use Rattle.db_rows.specs.Bounds.{allows_key, IsWithinBounds}
use Rattle.db_rows.proofs.BoundSteps.{passes_more, allowed_here, allowed_elsewhere}
use Rattle.db_rows.specs.declared.bounds.KeyBounds.{KeyBounds}
use Rattle.db_rows.proofs.MeetSteps.{key_met}
use Rattle.db_rows.proofs.bounds.key_bounds.Goals as goal
use Rattle.db_rows.proofs.bounds.key_bounds.Goals.{then-is_on_key, else-is_on_key}

pub loop-cond-preserved : goal.loop-cond-preserved
loop-cond-preserved c =
    let columns = c.args.columns.now in
    let conds = c.args.conds.now in
    let i = c.loop-cond.cond-index in
    let item = c.cond-item.result in
    record {
      bound = λ r vs row met.
          let within = c.loop-cond.invariant.bound r vs row met in
          elim c.if-is_on_key.branch [
            | then-is_on_key w ↦
                let key : is_key_source (source_of (cond_column item) columns) ≡ true = sym c.is_on_key.ensures ∙ w.if-is_on_key.true in
                let holds = key_met columns conds r vs i item c.loop-cond-test.true c.cond-item.is met key in
                subst (λ (b : KeyBounds). IsWithinBounds b r) (sym w.bounds-is) ((w.overlap-bounds.ensures r).1 (within, w.cond_bounds.ensures.bound r row holds))
            | else-is_on_key w ↦ subst (λ (b : KeyBounds). IsWithinBounds b r) (sym w.bounds-is) within
          ];
      tight = λ r row within.
          elim c.if-is_on_key.branch [
            | then-is_on_key w ↦
                let both = (w.overlap-bounds.ensures r).0 (subst (λ (b : KeyBounds). IsWithinBounds b r) w.bounds-is within) in
                passes_more (allows_key columns r) conds i item (c.loop-cond.invariant.tight r row both.0) c.loop-cond-test.true c.cond-item.is (allowed_here columns item r (λ range. w.cond_bounds.ensures.tight range r row both.1))
            | else-is_on_key w ↦
                let other : is_key_source (source_of (cond_column item) columns) ≡ false = sym c.is_on_key.ensures ∙ w.if-is_on_key.false in
                passes_more (allows_key columns r) conds i item (c.loop-cond.invariant.tight r row (subst (λ (b : KeyBounds). IsWithinBounds b r) w.bounds-is within)) c.loop-cond-test.true c.cond-item.is (allowed_elsewhere columns item r other)
          ];
    }

pub returns-clause-tight : goal.returns-clause-tight
returns-clause-tight c = λ r row within.
    subst (λ (cs : List Cond). list_all (allows_key c.args.columns.now r) cs ≡ true) (take_all c.loop-cond.cond-index c.args.conds.now c.loop-cond-test.false) (c.loop-cond.invariant.tight r row within)
