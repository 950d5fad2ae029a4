use Rattle.std.proofs.Common.{ap, is_ok, length, arith}
use Rattle.std.proofs.ResultArms.{chosen}
use Rattle.st_parse.specs.Lists.{list_at}
use Rattle.st_parse.proofs.Lists.{begins, step-separator, step-end}
use Rattle.st_parse.proofs.listing.read_list.Goals as goal

pub items-init : goal.items-init
items-init g c = record { goes_on = begins c.args.separator g.T.Element.item_at _ c.args.lexemes.now c.new-items.ensures.items; shorter = omega arith }

pub items-preserved : goal.items-preserved
items-preserved g c =
    let pushed = chosen _ _ _ _ c.push.ensures.items (ap is_ok c.in_ok-push-in-Ok.was) in
    record {
      goes_on = step-separator c.args.separator g.T.Element.item_at c.items.items.items _ c.items.rest.now c.in-Ok.after.now c.in-Some.next.now c.in-Ok.item (list_at c.args.separator g.T.Element.item_at c.args.lexemes.now) c.in-Ok.ensures.gives c.in-Ok.ensures.rest c.in-Some.ensures pushed c.items.invariant.goes_on;
      shorter = omega (arith, c.in-Ok.ensures.rest, ap length c.in-Some.ensures, c.items.invariant.shorter);
    }

pub returns-in-None-clause-gives : goal.returns-in-None-clause-gives
returns-in-None-clause-gives g c =
    let pushed = chosen _ _ _ _ c.push.ensures.items (ap is_ok c.in_ok-push-in-Ok.was) in
    step-end c.args.separator g.T.Element.item_at c.items.items.items _ c.items.rest.now c.in-Ok.after.now c.in-Ok.item (list_at c.args.separator g.T.Element.item_at c.args.lexemes.now) c.in-Ok.ensures.gives c.in-None.ensures pushed c.items.invariant.goes_on
