use Rattle.std.proofs.Common.{◌≡◌, ◌++◌, length}
use Rattle.std.specs.List.{flat_map}
use Rattle.rs_result.specs.Comparing.{ranked}
use Rattle.db_hits.specs.Rows.{rank_line}
use Rattle.db_hits.proofs.listing.push_hits.Given as goal

abbrev pub invariant-loop-rest : goal.invariant-loop-rest
invariant-loop-rest l = l.lines.items ++ flat_map (λ row. rank_line (ranked row)) l.rest ≡ l.fn.lines.items ++ flat_map (λ row. rank_line (ranked row)) l.rows

abbrev pub decreases-loop-rest : goal.decreases-loop-rest
decreases-loop-rest l = length l.rest
