use Rattle.std.proofs.Common.{◌≡◌, ◌++◌}
use Rattle.std.specs.Prelude.{map}
use Rattle.ct_keep.specs.SeenChanges.{change_of}
use Rattle.pg_batch.specs.ByKey.{changes_seen}
use Rattle.pg_batch.proofs.ordering.by_key.Given as goal

abbrev pub invariant-loop-key : goal.invariant-loop-key
invariant-loop-key l = map change_of l.changes.items ++ changes_seen l.key-iterator ≡ changes_seen l.initial.key-iterator
