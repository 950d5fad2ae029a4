use Rattle.std.proofs.Common.{◌≡◌, take}
use Rattle.pg_directory.specs.Levels.{leasts_of}
use Rattle.pg_leaves.proofs.finding.least_entries.Given as goal

abbrev pub invariant-loop-leaf : goal.invariant-loop-leaf
invariant-loop-leaf l = l.leasts.items ≡ leasts_of (take l.leaf-index l.leaves)
