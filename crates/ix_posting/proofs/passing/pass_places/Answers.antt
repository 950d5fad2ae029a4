use Rattle.std.proofs.Common.{◌+◌, ◌-◌, arith}
use Rattle.ix_posting.specs.laws.Places.{places}
use Rattle.ix_posting.proofs.PassSteps.{passed_none, passed_more, passed_all, none_passed}
use Rattle.ix_posting.proofs.passing.pass_places.Goals as goal

pub loop-init : goal.loop-init
loop-init g c = passed_none _ _ _ _ _ _ c.origin-last.ensures (omega arith)

pub returns-in_default-clause-none : goal.returns-in_default-clause-none
returns-in_default-clause-none g c = none_passed _ _ _ (places g.P.Place.form g.P.Place.lawful c.args.bytes.now) _ _ _ _ _ _ (c.args.count - (c.loop.counter + 1)) c.loop.invariant (omega arith) c.in_default.ensures.none

pub loop-preserved : goal.loop-preserved
loop-preserved g c = passed_more _ _ _ (places g.P.Place.form g.P.Place.lawful c.args.bytes.now) _ _ _ _ _ _ _ _ _ c.loop.invariant (omega arith) c.in-Some.ensures.some

pub returns-clause-some : goal.returns-clause-some
returns-clause-some g c = passed_all _ _ _ (places g.P.Place.form g.P.Place.lawful c.args.bytes.now) _ _ _ _ _ _ c.loop.invariant (omega arith)
