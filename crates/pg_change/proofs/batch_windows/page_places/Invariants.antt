use Rattle.std.proofs.Common.{◌≡◌, take}
use Rattle.std.specs.Prelude.{map}
use Rattle.pg_change.specs.BatchWindows.{place_or}
use Rattle.pg_change.proofs.batch_windows.page_places.Given as goal

abbrev pub invariant-loop-i : goal.invariant-loop-i
invariant-loop-i l = l.places.items ≡ map (place_or l.none) (take l.i l.entries)
