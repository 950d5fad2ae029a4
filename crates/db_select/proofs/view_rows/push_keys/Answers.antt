use Rattle.std.proofs.Common.{List, ◌++◌, ℤ, ap, ◌∙◌}
use Rattle.db_select.specs.ViewRows.{key_numbers, shown_rows}
use Rattle.db_select.proofs.ViewSteps.{keys_of_rows}
use Rattle.db_select.proofs.view_rows.push_keys.Goals as goal

pub returns-clause-keys : goal.returns-clause-keys
returns-clause-keys g c = λ m k holds stands.
    let rows = ap shown_rows c.deref.ensures.value ∙ c.in_ok-rows.ensures.rows m k holds stands in
    c.in_ok-append.ensures
    ∙ ap (λ (l : List ℤ). key_numbers c.args.keys.now.items ++ l) (keys_of_rows c.args.view m.indexes c.args.index.now c.deref.result.now rows)
