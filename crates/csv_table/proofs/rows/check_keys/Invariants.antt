use Rattle.std.proofs.Common.{length}
use Rattle.std.specs.Prelude.{is_some}
use Rattle.std.specs.BTreeMap.{get}
use Rattle.std.specs.Ordering.{int_cmp}
use Rattle.csv_table.specs.Tables.{key_numbers}
use Rattle.csv_table.proofs.TableSteps.{KeysSoFar}
use Rattle.csv_table.proofs.rows.check_keys.Given as goal

abbrev pub invariant-rows : goal.invariant-rows
invariant-rows l = KeysSoFar (key_numbers l.fn.rows) (key_numbers l.rest) (λ q. is_some (get int_cmp l.lines q))

abbrev pub decreases-rows : goal.decreases-rows
decreases-rows l = length l.rest
