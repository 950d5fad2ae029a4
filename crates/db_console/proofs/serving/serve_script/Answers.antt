use Rattle.std.proofs.Common.{◌≤◌, ◌-◌, false, Ok, ap, arith}
use Rattle.std.proofs.lemmas.Bool.{false≢true}
use Rattle.db_console.proofs.Lasting.{heard_end, heard_more}
use Rattle.db_console.proofs.TableLaws.{going_start, going_heard, going_on, out_memory, out_fault, out_broke, out_closed, out_past}
use Rattle.db_console.proofs.serving.serve_script.Goals as goal

pub loop-taken-init : goal.loop-taken-init
loop-taken-init g c = record { within = omega arith; going = going_start c.args.limit _ c.in-Ok.cutter c.requires.ready c.in-Ok.ensures }

pub returns-in_default-clause-outcome : goal.returns-in_default-clause-outcome
returns-in_default-clause-outcome g c = out_memory c.args.limit c.args.most _ c.requires.ready (g.met.K.Keeper.settled c.args.keeper.now c.requires.ready)

pub returns-in_default-hear_some-clause-outcome : goal.returns-in_default-hear_some-clause-outcome
returns-in_default-hear_some-clause-outcome g c =
    out_fault _ _ _ _ _ _ _ (g.met.K.Keeper.settled c.hear_some.new.keeper) c.loop-taken.invariant.going c.loop-taken.invariant.within c.in_default-hear_some.ensures.heard

pub returns-then-count-eq0-clause-outcome : goal.returns-then-count-eq0-clause-outcome
returns-then-count-eq0-clause-outcome g c =
    out_closed c.close.result _ _ _ _ _ _ _ _ (g.met.K.Keeper.settled c.close.new.keeper) c.loop-taken.invariant.going (heard_end c.in-Ok-hear_some.count _ _ _ c.if-count-eq0.true c.in-Ok-hear_some.ensures.heard) c.loop-taken.invariant.within
    (c.in-Ok-hear_some.ensures.end (ap Ok c.if-count-eq0.true)) c.close.ensures

pub returns-in-Err-clause-outcome : goal.returns-in-Err-clause-outcome
returns-in-Err-clause-outcome g c =
    let b : c.in-Ok-hear_some.count ≤ c.args.most - c.loop-taken.taken = omega (arith, c.in-Ok-hear_some.ensures.bound, c.min-room.ensures) in
    out_broke c.in-Err.fault _ _ _ _ _ _ _ _ _ false (going_heard false false _ _ _ _ _ _ _ c.loop-taken.invariant.going (heard_more c.in-Ok-hear_some.count _ _ _ c.if-count-eq0.false c.in-Ok-hear_some.ensures.heard))
    (rw c.in-Ok-hear_some.ensures.sized (omega (arith, b, c.loop-taken-test.true, c.loop-taken.invariant.within))) (λ e. absurd (false≢true e)) c.in-Err.ensures.broke c.ending.ensures

pub loop-taken-preserved : goal.loop-taken-preserved
loop-taken-preserved g c = record {
  within = omega (arith, c.in-Ok-hear_some.ensures.bound, c.min-room.ensures, c.loop-taken-test.true);
  going = going_on _ _ _ _ _ _ _ _ _ (going_heard false false _ _ _ _ _ _ _ c.loop-taken.invariant.going (heard_more c.in-Ok-hear_some.count _ _ _ c.if-count-eq0.false c.in-Ok-hear_some.ensures.heard)) c.in-Ok-hear_some.ensures.sized c.in_default-serve_bytes.ensures.served;
}

pub returns-in_default-hear_past-clause-outcome : goal.returns-in_default-hear_past-clause-outcome
returns-in_default-hear_past-clause-outcome g c =
    out_fault _ _ _ _ _ _ _ (g.met.K.Keeper.settled c.hear_past.new.keeper) c.loop-taken.invariant.going c.loop-taken.invariant.within c.in_default-hear_past.ensures.failed

pub returns-then-is_more-clause-outcome : goal.returns-then-is_more-clause-outcome
returns-then-is_more-clause-outcome g c =
    let m = c.in-Ok-hear_past.ensures.more (ap Ok c.if-is_more.true) in
    out_past _ _ _ m.0 _ _ _ _ (g.met.K.Keeper.settled c.hear_past.new.keeper) c.loop-taken.invariant.going m.1 (omega (arith, c.loop-taken.invariant.within, c.loop-taken-test.false))

pub returns-clause-outcome : goal.returns-clause-outcome
returns-clause-outcome g c =
    let m = c.in-Ok-hear_past.ensures.end (ap Ok c.if-is_more.false) in
    out_closed c.close-2.result _ _ _ _ _ _ _ _ (g.met.K.Keeper.settled c.close-2.new.keeper) c.loop-taken.invariant.going m.0 c.loop-taken.invariant.within m.1 c.close-2.ensures
