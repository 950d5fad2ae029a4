use Rattle.std.proofs.Common.{◌≡◌, length}
use Rattle.db_call.specs.Arguments.{argument_text as text_there}
use Rattle.db_call.proofs.arguments.text_at.Given as goal

abbrev pub invariant-loop-rest : goal.invariant-loop-rest
invariant-loop-rest l = text_there l.before l.rest ≡ text_there l.place l.args

abbrev pub decreases-loop-rest : goal.decreases-loop-rest
decreases-loop-rest l = length l.rest
