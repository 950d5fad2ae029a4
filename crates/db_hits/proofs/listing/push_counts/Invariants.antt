use Rattle.std.proofs.Common.{◌≡◌, ◌++◌, map}
use Rattle.std.specs.List.{flat_map}
use Rattle.rs_result.specs.Counts.{counted}
use Rattle.db_hits.specs.Parts.{group_line}
use Rattle.db_hits.proofs.listing.push_counts.Given as goal

abbrev pub invariant-loop-count : goal.invariant-loop-count
invariant-loop-count l = l.lines.items ++ flat_map group_line (map counted l.count-iterator.rest.items) ≡ l.fn.lines.items ++ flat_map group_line (map counted l.fn.counts.items)
