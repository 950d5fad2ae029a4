use Rattle.std.proofs.Common.{arith}
use Rattle.std.proofs.lemmas.Result.{err_from_is_err_and}
use Rattle.db_console.proofs.SayingTo.{to_none, to_more, to_whole, to_part, to_within}
use Rattle.db_console.proofs.saying.say_to.Goals as goal

pub loop-at-init : goal.loop-at-init
loop-at-init g c = record { within = omega arith; says = to_none _ }

pub loop-at-preserved : goal.loop-at-preserved
loop-at-preserved g c = record {
  within = to_within _ _ _ c.loop-at.invariant.within c.in_ok-at.ensures.bound;
  says = to_more _ _ _ _ _ _ c.loop-at.invariant.says c.in_ok-at.ensures.says c.in_ok-at.ensures.cause.passed;
}

pub returns-clause-all : goal.returns-clause-all
returns-clause-all g c = to_whole _ _ _ _ c.loop-at-test.false c.loop-at.invariant.says

pub returns-in_err-at-clause-part : goal.returns-in_err-at-clause-part
returns-in_err-at-clause-part g c = let p = err_from_is_err_and c.from_residual.result c.from_residual.ensures.1 in rw p.1
    (to_part _ _ _ _ _ c.loop-at-test.true c.loop-at.invariant.says c.in_err-at.ensures.says c.in_err-at.ensures.cause.failed)
