use Rattle.std.proofs.Common.{◌≡◌, map, take, IsPermutation}
use Rattle.std.specs.List.{flat_map}
use Rattle.rs_result.specs.Comparing.{ranked}
use Rattle.rs_result.specs.Orders.{HaveOwnKeys}
use Rattle.db_hits.specs.Rows.{held_text}
use Rattle.db_hits.proofs.listing.part_lines.Given as goal

abbrev pub invariant-loop-part : goal.invariant-loop-part
invariant-loop-part l = record {
  moved : IsPermutation l.fn.hits.items l.rows.items;
  lines : HaveOwnKeys l.fn.hits.items → l.lines.items ≡ flat_map (held_text l.names (map ranked l.fn.hits.items)) (take l.part-index l.parts);
}
