use Rattle.std.proofs.Common.{◌≡◌, ◌≤◌, ◌++◌, length}
use Rattle.std.specs.List.{AllByRecursion}
use Rattle.csv_table.specs.declared.refusals.Refusal.{Refusal}
use Rattle.csv_table.specs.Faults.{HasOne, InsertFault}
use Rattle.csv_table.specs.Scripts.{statement_limit}
use Rattle.csv_table.specs.Spelling.{insert_text}
use Rattle.csv_table.specs.Steps.{inserts_text}
use Rattle.csv_table.proofs.spelling.push_inserts.Given as goal

abbrev pub invariant-rows : goal.invariant-rows
invariant-rows l = (l.out.items ++ inserts_text l.name l.columns l.rest ≡ l.fn.out.items ++ inserts_text l.name l.columns l.fn.rows)
    × (AllByRecursion (λ r. length (insert_text l.name l.columns r) ≤ statement_limit) l.rest → AllByRecursion (λ r. length (insert_text l.name l.columns r) ≤ statement_limit) l.fn.rows)
    × ((e : Refusal) → HasOne (λ r. InsertFault l.name l.columns r e) l.rest → HasOne (λ r. InsertFault l.name l.columns r e) l.fn.rows)

abbrev pub decreases-rows : goal.decreases-rows
decreases-rows l = length l.rest
