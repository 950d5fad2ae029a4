use Rattle.std.proofs.Common.{◌≡◌, ◌≤◌, length}
use Rattle.std.specs.Prelude.{bytes_eq}
use Rattle.std.specs.List.{list_any}
use Rattle.csv_table.proofs.FaultSteps.{Follows}
use Rattle.csv_table.proofs.names.place_of_name.Given as goal

abbrev pub invariant-names : goal.invariant-names
invariant-names l = (list_any (bytes_eq l.name) l.rest ≡ list_any (bytes_eq l.name) l.names) × (length l.rest ≤ length l.names) × Follows l.rest l.names

abbrev pub decreases-names : goal.decreases-names
decreases-names l = length l.rest
