use Rattle.std.proofs.Common.{◌≡◌, ℤ, true, take}
use Rattle.std.specs.List.{list_any}
use Rattle.ct_base.specs.declared.lists.Value.TheVariants.{Number as NumberValue}
use Rattle.ct_entry.specs.Keys.{IsRow}
use Rattle.st_parse.specs.declared.statements.Compare.TheVariants.{Equal}
use Rattle.db_cond.specs.Conditions.{compares}
use Rattle.db_rows.specs.Bounds.{IsWithinBounds}
use Rattle.db_rows.proofs.bounds.list_bounds.Given as goal

abbrev pub invariant-loop-operand : goal.invariant-loop-operand
invariant-loop-operand l = (r : ℤ) → IsRow r → list_any (compares Equal (NumberValue r)) (take l.operand-index l.operands) ≡ true → IsWithinBounds l.bounds r
