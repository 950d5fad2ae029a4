use Rattle.std.proofs.Common.{◌≡◌, drop}
use Rattle.db_change.specs.Updating.{set_in}
use Rattle.db_change.proofs.updating.set_in.Given as goal

abbrev pub invariant-loop-assign : goal.invariant-loop-assign
invariant-loop-assign l = set_in (drop l.assign-index l.assigns) l.name ≡ set_in l.assigns l.name
