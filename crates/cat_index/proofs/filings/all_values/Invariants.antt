use Rattle.std.proofs.Common.{◌≡◌, ◌++◌, ◌∷◌, [], true, length, map}
use Rattle.std.specs.List.{flat_map, list_all}
use Rattle.ct_entry.specs.Lists.{EachIs}
use Rattle.tx_sets.specs.Sets.{sub_column_limit}
use Rattle.cat_index.specs.Filings.{fit_sub_index, value_bytes}
use Rattle.cat_index.specs.Catalogues.{value_at}
use Rattle.cat_index.specs.Shapes.{AreItems}
use Rattle.cat_index.proofs.filings.all_values.Given as goal

abbrev pub invariant-each : goal.invariant-each
invariant-each l = record {
  bytes : l.all.items ++ map (flat_map value_bytes) (map (map (value_at l.key.0 l.values)) l.rest) ≡ [] ∷ map (flat_map value_bytes) (map (map (value_at l.key.0 l.values)) l.places);
  items : EachIs (AreItems sub_column_limit) (map (flat_map value_bytes) (map (map (value_at l.key.0 l.values)) l.rest))
      → EachIs (AreItems sub_column_limit) (map (flat_map value_bytes) (map (map (value_at l.key.0 l.values)) l.places));
  each : list_all fit_sub_index l.rest ≡ true;
}

abbrev pub decreases-each : goal.decreases-each
decreases-each l = length l.rest
