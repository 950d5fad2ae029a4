use Rattle.std.proofs.Common.{◌≡◌, ◌++◌, take}
use Rattle.std.specs.List.{flat_map}
use Rattle.db_cond.specs.Lines.{line}
use Rattle.db_select.specs.Views.{view_line}
use Rattle.db_select.specs.ViewRows.{shown_row}
use Rattle.db_select.proofs.view_rows.push_lines.Given as goal

abbrev pub invariant-loop-row : goal.invariant-loop-row
invariant-loop-row l = l.lines.items ≡ l.fn.lines.items ++ flat_map (λ row. line (view_line l.index (shown_row row))) (take l.row-index l.rows)
