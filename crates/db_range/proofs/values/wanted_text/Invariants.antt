use Rattle.std.proofs.Common.{◌≡◌, length}
use Rattle.db_range.specs.Values.{wanted_text}
use Rattle.db_range.proofs.values.wanted_text.Given as goal

abbrev pub invariant-loop-rest : goal.invariant-loop-rest
invariant-loop-rest l = wanted_text l.rest l.name ≡ wanted_text l.conds l.name

abbrev pub decreases-loop-rest : goal.decreases-loop-rest
decreases-loop-rest l = length l.rest
