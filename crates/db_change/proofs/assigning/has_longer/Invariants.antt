use Rattle.std.proofs.Common.{◌≡◌, true, drop, take}
use Rattle.std.specs.List.{list_any, list_all, All}
use Rattle.db_change.specs.Inserting.{is_of_sort, is_too_long}
use Rattle.db_change.specs.Updating.{of_its_sort, IsShortAssign}
use Rattle.db_change.proofs.assigning.has_longer.Given as goal

abbrev pub invariant-loop-assign : goal.invariant-loop-assign
invariant-loop-assign l = record {
  long : list_any (of_its_sort is_too_long l.columns) (drop l.assign-index l.assigns) ≡ list_any (of_its_sort is_too_long l.columns) l.assigns;
  short : list_all (of_its_sort is_of_sort l.columns) l.assigns ≡ true → All IsShortAssign (take l.assign-index l.assigns);
}
