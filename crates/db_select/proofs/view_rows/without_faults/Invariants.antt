use Rattle.std.proofs.Common.{◌≡◌, ◌++◌, map}
use Rattle.db_select.specs.Views.{without_fault}
use Rattle.db_select.specs.ViewRows.{shown_rows}
use Rattle.db_select.proofs.view_rows.without_faults.Given as goal

abbrev pub invariant-loop-key : goal.invariant-loop-key
invariant-loop-key l = shown_rows l.shown.items ++ map (λ row. without_fault row.0) l.key-iterator.rest.items ≡ map (λ row. without_fault row.0) l.fn.rows.items
