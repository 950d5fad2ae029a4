use Rattle.std.proofs.Common.{List, ◌++◌, ℕ, ap, ◌∙◌}
use Rattle.db_select.specs.ViewRows.{shown_row, shown_rows}
use Rattle.db_select.proofs.ViewSteps.{lines_of_rows}
use Rattle.db_select.proofs.view_rows.push_view.Goals as goal

pub returns-clause-lines : goal.returns-clause-lines
returns-clause-lines g c = λ m k holds stands.
    let rows = ap shown_rows c.deref.ensures.value ∙ c.in_ok-rows.ensures.rows m k holds stands in
    c.in_ok-push_lines.ensures
    ∙ ap (λ (l : List ℕ). c.args.lines.now.items ++ l) (lines_of_rows c.args.view m.indexes c.args.index.now shown_row c.deref.result.now rows)
