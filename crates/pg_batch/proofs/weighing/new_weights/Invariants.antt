use Rattle.std.specs.Prelude.{map}
use Rattle.std.proofs.Common.{◌≡◌, ◌*◌, ◌^◌, ◌≤◌, take}
use Rattle.ct_keep.specs.Content.{changes_weight}
use Rattle.ct_keep.specs.SeenChanges.{change_of}
use Rattle.pg_batch.proofs.weighing.new_weights.Given as goal

abbrev pub invariant-loop-change : goal.invariant-loop-change
invariant-loop-change l = record {
  small : l.total ≤ l.change-index * 2 ^ 64;
  total : l.total ≡ changes_weight (map change_of (take l.change-index l.changes));
}
