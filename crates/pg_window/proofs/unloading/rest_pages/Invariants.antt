use Rattle.std.specs.Prelude.{map}
use Rattle.std.proofs.Common.{◌≡◌, ◌-◌, length, drop}
use Rattle.pg_window.specs.Loading.{page_place, rested}
use Rattle.pg_window.proofs.unloading.rest_pages.Given as goal

abbrev pub invariant-loop-done : goal.invariant-loop-done
invariant-loop-done l = l.sheets.items ≡ rested (drop (length l.numbers - l.done) (map page_place l.numbers)) l.fn.sheets.items
