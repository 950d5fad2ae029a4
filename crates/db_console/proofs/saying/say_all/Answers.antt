use Rattle.std.proofs.Common.{arith}
use Rattle.std.proofs.lemmas.Result.{err_from_is_err_and}
use Rattle.db_console.proofs.SayingLaws.{spoke_none, spoke_more, spoke_whole, spoke_part, within_more}
use Rattle.db_console.proofs.saying.say_all.Goals as goal

pub loop-at-init : goal.loop-at-init
loop-at-init g c = record { within = omega arith; spoke = spoke_none _ }

pub loop-at-preserved : goal.loop-at-preserved
loop-at-preserved g c = record {
  within = within_more _ _ _ c.loop-at.invariant.within c.in_ok-at.ensures.bound;
  spoke = spoke_more _ _ _ _ _ _ c.loop-at.invariant.spoke c.in_ok-at.ensures.says c.in_ok-at.ensures.cause.passed;
}

pub returns-clause-all : goal.returns-clause-all
returns-clause-all g c = spoke_whole _ _ _ _ c.loop-at-test.false c.loop-at.invariant.spoke

pub returns-in_err-at-clause-part : goal.returns-in_err-at-clause-part
returns-in_err-at-clause-part g c = let p = err_from_is_err_and c.from_residual.result c.from_residual.ensures.1 in rw p.1
    (spoke_part _ _ _ _ _ c.loop-at-test.true c.loop-at.invariant.spoke c.in_err-at.ensures.says c.in_err-at.ensures.cause.failed c.in_err-at.ensures.passes)
