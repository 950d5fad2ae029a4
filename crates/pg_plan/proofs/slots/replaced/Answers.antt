use Rattle.std.proofs.Common.{arith, refl}
use Rattle.pg_plan.proofs.Copying.{replaces_more}
use Rattle.pg_plan.proofs.slots.replaced.Goals as goal

pub loop-i-preserved : goal.loop-i-preserved
loop-i-preserved c =
    replaces_more c.args.page.now c.args.slot c.loop-i.i _ c.args.string.now c.in_ok-old.old.now c.chosen.result.now c.loop-i.rest c.put.new.self c.loop-i.invariant refl (omega (arith, c.in_ok-old.ensures.0)) c.chosen.ensures.here c.chosen.ensures.other c.in_ok-old.ensures.1
    c.in_ok-put.ensures.put.1 (λ full. let e = c.in_ok-put.ensures.none.1 full in cc e)
