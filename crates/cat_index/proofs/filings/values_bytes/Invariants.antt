use Rattle.std.proofs.Common.{◌≡◌, ◌++◌, length, map}
use Rattle.std.specs.List.{flat_map}
use Rattle.ct_entry.specs.Lists.{EachIs}
use Rattle.cat_index.specs.Filings.{value_bytes}
use Rattle.cat_index.specs.Catalogues.{value_at}
use Rattle.cat_index.specs.Shapes.{IsItem}
use Rattle.cat_index.proofs.filings.values_bytes.Given as goal

abbrev pub invariant-each : goal.invariant-each
invariant-each l = record {
  bytes : l.bytes.items ++ flat_map value_bytes (map (value_at l.key.0 l.values) l.rest) ≡ flat_map value_bytes (map (value_at l.key.0 l.values) l.places);
  items : EachIs IsItem (map value_bytes (map (value_at l.key.0 l.values) l.rest)) → EachIs IsItem (map value_bytes (map (value_at l.key.0 l.values) l.places));
}

abbrev pub decreases-each : goal.decreases-each
decreases-each l = length l.rest
