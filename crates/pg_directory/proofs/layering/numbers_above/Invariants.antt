use Rattle.std.specs.Prelude.{map}
use Rattle.std.proofs.Common.{◌≡◌, take}
use Rattle.pg_directory.specs.Building.{above_of, numbers_of}
use Rattle.pg_directory.proofs.layering.numbers_above.Given as goal

abbrev pub invariant-loop-page : goal.invariant-loop-page
invariant-loop-page l = l.numbers.items ≡ numbers_of (map above_of (take l.page-index l.pages))
