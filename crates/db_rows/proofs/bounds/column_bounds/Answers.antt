use Rattle.std.proofs.Common.{◌≡◌, true, List, sym, subst, ◌∙◌}
use Rattle.std.specs.List.{list_all}
use Rattle.std.proofs.lemmas.List.{take_all}
use Rattle.st_parse.specs.declared.statements.Cond.{Cond}
use Rattle.db_rows.specs.Bounds.{allows_but_list}
use Rattle.db_rows.proofs.BoundSteps.{moved_within, number_met, passes_more, number_here, number_elsewhere}
use Rattle.db_rows.proofs.bounds.column_bounds.Goals as goal
use Rattle.db_rows.proofs.bounds.column_bounds.Goals.{then-is_on, else-is_on}

pub loop-cond-preserved : goal.loop-cond-preserved
loop-cond-preserved c =
    let name = c.args.name.now in
    let conds = c.args.conds.now in
    let i = c.loop-cond.cond-index in
    let item = c.cond-item.result in
    record {
      bound = λ n row met. elim c.if-is_on.branch [
        | then-is_on w ↦
            let holds = number_met name conds n i item c.loop-cond-test.true c.cond-item.is met (sym c.is_on.ensures ∙ w.if-is_on.true) in
            moved_within _ _ n w.bounds-is ((w.overlap-bounds.ensures n).1 (c.loop-cond.invariant.bound n row met, w.cond_bounds.ensures.bound n row holds))
        | else-is_on w ↦ moved_within _ _ n w.bounds-is (c.loop-cond.invariant.bound n row met)
      ];
      tight = λ n row within. elim c.if-is_on.branch [
        | then-is_on w ↦
            let both = (w.overlap-bounds.ensures n).0 (moved_within _ _ n (sym w.bounds-is) within) in
            passes_more (allows_but_list name n) conds i item (c.loop-cond.invariant.tight n row both.0) c.loop-cond-test.true c.cond-item.is (number_here name item n (λ range. w.cond_bounds.ensures.tight range n row both.1))
        | else-is_on w ↦
            let before = c.loop-cond.invariant.tight n row (moved_within _ _ n (sym w.bounds-is) within) in
            passes_more (allows_but_list name n) conds i item before c.loop-cond-test.true c.cond-item.is (number_elsewhere name item n (sym c.is_on.ensures ∙ w.if-is_on.false))
      ];
    }

pub returns-clause-tight : goal.returns-clause-tight
returns-clause-tight c = λ n row within.
    subst (λ (cs : List Cond). list_all (allows_but_list c.args.name.now n) cs ≡ true) (take_all c.loop-cond.cond-index c.args.conds.now c.loop-cond-test.false) (c.loop-cond.invariant.tight n row within)
