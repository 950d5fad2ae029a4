use Rattle.std.proofs.Common.{◌≤◌, length}
use Rattle.std.specs.List.{AllByRecursion}
use Rattle.csv_table.specs.Tables.{IsField}
use Rattle.csv_table.proofs.FaultSteps.{Follows}
use Rattle.csv_table.proofs.texts.check_texts.Given as goal

abbrev pub invariant-texts : goal.invariant-texts
invariant-texts l = (AllByRecursion IsField l.rest → AllByRecursion IsField l.texts) × (length l.rest ≤ length l.texts) × Follows l.rest l.texts

abbrev pub decreases-texts : goal.decreases-texts
decreases-texts l = length l.rest
