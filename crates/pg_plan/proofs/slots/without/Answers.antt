use Rattle.std.proofs.Common.{rules, arith, sym, refl, subst}
use Rattle.pg_plan.proofs.Copying.{copies_none, copies_more, copies_all, copies_room, Copies}
use Rattle.pg_plan.proofs.slots.without.Goals as goal

pub loop-i-init : goal.loop-i-init
loop-i-init c = subst (Copies c.args.page.now c.args.slot 0) (sym c.empty-rest.ensures) (copies_none c.args.page.now c.args.slot)

pub returns : goal.returns
returns c = copies_all c.args.page.now c.args.slot c.loop-i.i c.loop-i.rest c.loop-i.invariant (omega (arith, c.loop-i-test.false, c.saturating_sub-last.ensures, c.count.ensures.count))

pub returns-in_default-put : goal.returns-in_default-put
returns-in_default-put c = absurd
    (copies_room c.args.page.now c.args.slot c.loop-i.i c.source.result c.loop-i.rest c.in-Some.string.now c.loop-i.invariant c.requires c.count.ensures.fits (search rules) (search rules) c.source.ensures.other c.in-Some.ensures.1 (c.in_default-put.ensures.none.0 refl))

pub loop-i-preserved : goal.loop-i-preserved
loop-i-preserved c =
    copies_more c.args.page.now c.args.slot c.loop-i.i c.source.result _ c.loop-i.rest c.put.new.self c.in-Some.string.now c.loop-i.invariant refl (search rules) (search rules) c.source.ensures.other c.in-Some.ensures.1 c.in-Some-put.ensures.put.1
