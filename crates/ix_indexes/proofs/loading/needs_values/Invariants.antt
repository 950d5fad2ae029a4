use Rattle.std.proofs.Common.{◌≡◌, length}
use Rattle.ix_indexes.specs.Noting.{any_needs_values}
use Rattle.ix_indexes.proofs.loading.needs_values.Given as goal

abbrev pub invariant-loop-rest : goal.invariant-loop-rest
invariant-loop-rest l = any_needs_values l.rest ≡ any_needs_values l.indexes

abbrev pub decreases-loop-rest : goal.decreases-loop-rest
decreases-loop-rest l = length l.rest
