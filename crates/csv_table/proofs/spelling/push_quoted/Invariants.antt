use Rattle.std.proofs.Common.{◌≡◌, ◌++◌, ◌∷◌, length}
use Rattle.st_parse.specs.Writing.{quoted}
use Rattle.csv_table.proofs.spelling.push_quoted.Given as goal

abbrev pub invariant-bytes : goal.invariant-bytes
invariant-bytes l = l.out.items ++ quoted l.rest ≡ l.fn.out.items ++ 39 ∷ quoted l.text

abbrev pub decreases-bytes : goal.decreases-bytes
decreases-bytes l = length l.rest
