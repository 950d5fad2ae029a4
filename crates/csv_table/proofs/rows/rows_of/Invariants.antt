use Rattle.std.proofs.Common.{◌≡◌, ◌++◌, ◌+◌, ℕ, length, map}
use Rattle.std.specs.List.{AllByRecursion}
use Rattle.csv.specs.Records.{fields_of}
use Rattle.csv_table.specs.declared.refusals.Refusal.{Refusal}
use Rattle.csv_table.specs.Faults.{HasOne, RowFault}
use Rattle.csv_table.specs.Tables.{IsFullRow, put_at}
use Rattle.csv_table.proofs.rows.rows_of.Given as goal

abbrev pub invariant-records : goal.invariant-records
invariant-records l = (map (λ r. put_at l.place r.key r.values) l.rows.items ++ map fields_of l.rest ≡ map fields_of l.records)
    × ((count : ℕ) → count + 1 ≡ l.width → AllByRecursion (IsFullRow count) l.rows.items)
    × ((e : Refusal) → HasOne (λ r. RowFault l.width l.place (fields_of r) e) l.rest → HasOne (λ r. RowFault l.width l.place (fields_of r) e) l.records)

abbrev pub decreases-records : goal.decreases-records
decreases-records l = length l.rest
