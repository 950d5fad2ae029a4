use Rattle.std.proofs.Common.{◌∙◌, List, ℕ, ap, map, arith}
use Rattle.std.specs.List.{flat_map}
use Rattle.cat_index.specs.Catalogues.{value_at}
use Rattle.cat_index.specs.Filings.{fit_sub_index, value_bytes}
use Rattle.cat_index.proofs.FilingSteps.{first_fits, next_items, next_values, values_end}
use Rattle.cat_index.proofs.filings.all_values.Goals as goal

pub values_bytes-requires : goal.values_bytes-requires
values_bytes-requires c = ap fit_sub_index c.as_slice.ensures ∙ (first_fits c.each.rest.now c.in-Some.first.now c.in-Some.later.now c.in-Some.ensures.cases.0 c.each.invariant.each).0

pub each-preserved : goal.each-preserved
each-preserved c =
    let are = c.in_ok-bytes.ensures.bytes ∙ ap (λ (l : List ℕ). flat_map value_bytes (map (value_at c.args.key.0 c.args.values.now) l)) c.as_slice.ensures in
    record {
      bytes = next_values (value_at c.args.key.0 c.args.values.now) c.each.rest.now c.in-Some.first.now c.in-Some.later.now c.each.all.items c.push-in-Some.new.self.items _ c.in_ok-bytes.bytes c.in-Some.ensures.cases.0 c.in_ok-push-2.ensures.items are c.each.invariant.bytes;
      items = next_items (value_at c.args.key.0 c.args.values.now) c.each.rest.now c.in-Some.first.now c.in-Some.later.now _ c.in_ok-bytes.bytes c.in-Some.ensures.cases.0 are c.in_ok-bytes.ensures.items c.each.invariant.items;
      each = (first_fits c.each.rest.now c.in-Some.first.now c.in-Some.later.now c.in-Some.ensures.cases.0 c.each.invariant.each).1;
    }

pub returns-clause-values : goal.returns-clause-values
returns-clause-values c =
    values_end (value_at c.args.key.0 c.args.values.now) c.args.places.now c.each.rest.now c.each.all.items (omega (arith, c.in_default.ensures.cases)) c.each.invariant.bytes c.each.invariant.items
