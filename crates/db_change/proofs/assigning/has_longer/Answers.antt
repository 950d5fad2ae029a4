use Rattle.std.proofs.Common.{refl, sym, ap, ◌∙◌}
use Rattle.db_change.specs.Inserting.{is_of_sort, is_too_long}
use Rattle.db_change.specs.Updating.{of_its_sort, IsShortAssign}
use Rattle.db_change.proofs.AssignSteps.{any_passed, all_at, more_of, all_of}
use Rattle.db_change.proofs.assigning.has_longer.Goals as goal

pub loop-assign-preserved : goal.loop-assign-preserved
loop-assign-preserved c =
    let cs = c.args.columns.now in
    let xs = c.args.assigns.now in
    let i = c.loop-assign.assign-index in
    let x = c.assign-item.result in
    let less = c.loop-assign-test.true in
    let is = c.assign-item.is in
    record {
      long = any_passed (of_its_sort is_too_long cs) xs i x less is (sym c.if-is_longer.ensures.long) ∙ c.loop-assign.invariant.long;
      short = λ sorts. more_of IsShortAssign xs i x (c.loop-assign.invariant.short sorts) less is (c.if-is_longer.ensures.short (ap (of_its_sort is_of_sort cs) is ∙ all_at (of_its_sort is_of_sort cs) xs i x sorts less) refl);
    }

pub returns-clause-short : goal.returns-clause-short
returns-clause-short c = λ sorts _. all_of IsShortAssign c.args.assigns.now c.loop-assign.assign-index c.loop-assign-test.false (c.loop-assign.invariant.short sorts)
