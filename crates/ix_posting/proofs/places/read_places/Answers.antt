use Rattle.std.proofs.Common.{◌+◌, ◌-◌, arith}
use Rattle.ix_posting.specs.laws.Items.{read_more, read_all, none_more}
use Rattle.ix_posting.specs.laws.Places.{places}
use Rattle.ix_posting.proofs.places.read_places.Goals as goal

pub returns-in_default-clause-bad : goal.returns-in_default-clause-bad
returns-in_default-clause-bad g c = λ bad. none_more _ _ _ (places g.P.Place.form g.P.Place.lawful c.args.bytes.now) _ _ _ _ _ _ _ (c.args.count - (c.loop.counter + 1)) c.loop.invariant (omega arith) c.in_default.ensures.none

pub loop-preserved : goal.loop-preserved
loop-preserved g c =
    rw c.in_ok-push.ensures.items (read_more _ _ _ (places g.P.Place.form g.P.Place.lawful c.args.bytes.now) _ _ _ _ _ _ _ _ _ _ c.loop.invariant (omega arith) c.in-Some.ensures.some)

pub returns-clause-ok : goal.returns-clause-ok
returns-clause-ok g c = read_all _ _ _ (places g.P.Place.form g.P.Place.lawful c.args.bytes.now) _ _ _ _ _ _ _ c.loop.invariant (omega arith)
