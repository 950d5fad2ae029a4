use Rattle.std.proofs.Common.{◌≡◌, length}
use Rattle.db_index.specs.Syncing.{is_size_from, is_memory_size}
use Rattle.db_index.proofs.syncing.is_memory_size.Given as goal

abbrev pub invariant-loop-rest : goal.invariant-loop-rest
invariant-loop-rest l = is_size_from l.some l.rest ≡ is_memory_size l.text

abbrev pub decreases-loop-rest : goal.decreases-loop-rest
decreases-loop-rest l = length l.rest
