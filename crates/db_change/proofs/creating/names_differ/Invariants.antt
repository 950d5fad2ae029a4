use Rattle.std.proofs.Common.{◌≡◌, length}
use Rattle.db_change.specs.Creating.{names_differ}
use Rattle.db_change.proofs.creating.names_differ.Given as goal

abbrev pub invariant-loop-rest : goal.invariant-loop-rest
invariant-loop-rest l = names_differ l.rest ≡ names_differ l.columns

abbrev pub decreases-loop-rest : goal.decreases-loop-rest
decreases-loop-rest l = length l.rest
