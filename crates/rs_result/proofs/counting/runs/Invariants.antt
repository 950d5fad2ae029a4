use Rattle.std.proofs.Common.{◌≡◌, ◌≤◌, ◌+◌, ◌++◌, map, drop}
use Rattle.rs_result.specs.Counts.{counted, runs, runs_after, values_of}
use Rattle.rs_result.proofs.counting.runs.Given as goal

abbrev pub invariant-loop-other : goal.invariant-loop-other
invariant-loop-other l = record {
  so_far : map counted l.counts.items ++ runs_after l.value l.n (values_of (drop l.other-index l.others)) ≡ runs (values_of l.values);
  few : l.n ≤ l.other-index + 1;
}
