use Rattle.std.proofs.Common.{◌≡◌, ◌≤◌, ◌+◌, ◌++◌, length, map}
use Rattle.rs_result.specs.Comparing.{ranked}
use Rattle.rs_result.specs.Counts.{column_values, values_of}
use Rattle.rs_result.proofs.counting.column_values.Given as goal

abbrev pub invariant-loop-row : goal.invariant-loop-row
invariant-loop-row g l = record {
  so_far : values_of l.values.items ++ column_values l.column (map ranked l.rest) ≡ column_values l.column (map ranked l.rows);
  few : length l.values.items + length l.rest ≤ length l.rows;
}

abbrev pub decreases-loop-row : goal.decreases-loop-row
decreases-loop-row g l = length l.rest
