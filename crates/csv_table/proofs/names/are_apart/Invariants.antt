use Rattle.std.proofs.Common.{◌≡◌, length}
use Rattle.csv_table.specs.Tables.{names_apart}
use Rattle.csv_table.proofs.names.are_apart.Given as goal

abbrev pub invariant-names : goal.invariant-names
invariant-names l = names_apart l.rest ≡ names_apart l.names

abbrev pub decreases-names : goal.decreases-names
decreases-names l = length l.rest
