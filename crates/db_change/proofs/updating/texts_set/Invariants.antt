use Rattle.std.proofs.Common.{◌≡◌, ◌≤◌, ◌+◌, ◌++◌, length, drop}
use Rattle.db_change.specs.Updating.{texts_set}
use Rattle.db_change.proofs.updating.texts_set.Given as goal

abbrev pub invariant-loop-place : goal.invariant-loop-place
invariant-loop-place l = length l.columns ≤ 255 → l.texts.items ++ texts_set (l.place + 1) (drop l.place l.columns) l.assigns ≡ texts_set 1 l.columns l.assigns
