use Rattle.std.proofs.Common.{subst, sym, arith}
use Rattle.tx_sets.specs.Sets.{sub_column_limit}
use Rattle.cat_index.specs.Catalogues.{value_at}
use Rattle.cat_index.specs.Shapes.{AreItems}
use Rattle.cat_index.proofs.FilingSteps.{items_end, next_item, next_value}
use Rattle.cat_index.proofs.filings.values_bytes.Goals as goal

pub each-preserved : goal.each-preserved
each-preserved c = record {
  bytes = next_value (value_at c.args.key.0 c.args.values.now) c.each.rest.now c.in-Some.place.now c.in-Some.later.now c.each.bytes.items c.put_value_at.new.out.items _ c.in-Some.ensures.cases.0 c.in_ok-put_value_at.ensures.bytes c.each.invariant.bytes;
  items = next_item (value_at c.args.key.0 c.args.values.now) c.each.rest.now c.in-Some.place.now c.in-Some.later.now _ c.in-Some.ensures.cases.0 c.in_ok-put_value_at.ensures.item c.each.invariant.items;
}

pub returns-clause-items : goal.returns-clause-items
returns-clause-items c =
    subst (AreItems sub_column_limit) (sym c.of.ensures)
    (items_end (value_at c.args.key.0 c.args.values.now) c.args.places.now c.each.rest.now c.each.bytes.items (omega (arith, c.in_default.ensures.cases)) c.requires c.each.invariant.bytes c.each.invariant.items)
