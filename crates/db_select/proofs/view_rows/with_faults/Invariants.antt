use Rattle.std.proofs.Common.{◌≡◌, ◌++◌, map}
use Rattle.rule_index.specs.Listed.{listed_errors}
use Rattle.db_select.specs.Views.{with_its_fault}
use Rattle.db_select.specs.ViewRows.{shown_rows}
use Rattle.db_select.proofs.view_rows.with_faults.Given as goal

abbrev pub invariant-loop-error : goal.invariant-loop-error
invariant-loop-error l = shown_rows l.shown.items ++ map with_its_fault (listed_errors l.error-iterator.rest.items) ≡ map with_its_fault (listed_errors l.fn.errors.items)
