use Rattle.std.proofs.Common.{◌≡◌, ◌≤◌, ◌++◌, length, map}
use Rattle.std.specs.Char.{to_ascii_lowercase}
use Rattle.std.specs.List.{AllByRecursion}
use Rattle.csv_table.specs.Tables.{IsPlainName}
use Rattle.csv_table.proofs.FaultSteps.{Follows}
use Rattle.csv_table.proofs.names.plain_names.Given as goal

abbrev pub invariant-fields : goal.invariant-fields
invariant-fields l = (l.names.items ++ map (map to_ascii_lowercase) l.rest ≡ map (map to_ascii_lowercase) l.header) × AllByRecursion IsPlainName l.names.items
    × (length l.rest ≤ length l.header) × Follows l.rest l.header

abbrev pub decreases-fields : goal.decreases-fields
decreases-fields l = length l.rest
