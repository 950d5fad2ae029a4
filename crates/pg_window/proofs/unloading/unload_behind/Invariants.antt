use Rattle.std.proofs.Common.{◌≡◌, ◌≤◌, length, drop, take}
use Rattle.pg_window.specs.Loading.{unloaded}
use Rattle.pg_window.proofs.unloading.unload_behind.Given as goal

abbrev pub invariant-loop-loaded : goal.invariant-loop-loaded
invariant-loop-loaded l = record {
  few : l.fn.count ≤ length l.loaded.items;
  many : length l.loaded.items ≤ length l.fn.loaded.items;
  front : l.loaded.items ≡ take (length l.loaded.items) l.fn.loaded.items;
  gone : l.sheets.items ≡ unloaded (drop (length l.loaded.items) l.fn.loaded.items) l.fn.sheets.items;
}

abbrev pub decreases-loop-loaded : goal.decreases-loop-loaded
decreases-loop-loaded l = length l.loaded.items
