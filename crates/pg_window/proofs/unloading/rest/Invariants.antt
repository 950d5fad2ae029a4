use Rattle.std.proofs.Common.{◌≡◌, ◌≤◌, length, drop}
use Rattle.pg_window.specs.Loading.{rested}
use Rattle.pg_window.proofs.unloading.rest.Given as goal

abbrev pub invariant-loop-count : goal.invariant-loop-count
invariant-loop-count l = record {
  few : l.count ≤ length l.places;
  rests : l.sheets.items ≡ rested (drop l.count l.places) l.fn.sheets.items;
}

abbrev pub decreases-loop-count : goal.decreases-loop-count
decreases-loop-count l = l.count
