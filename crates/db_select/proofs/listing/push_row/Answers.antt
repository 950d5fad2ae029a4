use Rattle.std.proofs.Common.{◌++◌, List, ap, ◌∙◌}
use Rattle.ct_base.specs.declared.lists.Value.{Value}
use Rattle.db_cond.specs.Lines.{line}
use Rattle.db_rows.specs.laws.Texts.{rises_end}
use Rattle.db_select.proofs.listing.push_row.Goals as goal

pub returns-clause-line : goal.returns-clause-line
returns-clause-line g c = λ m k holds stands own.
    c.in_ok-line.ensures.ok ∙ ap (λ (l : List Value). c.args.lines.now.items ++ line l) (c.deref.ensures.value ∙ c.in_ok-fields.ensures.fields m k holds stands own)

pub returns-in_err-fields-clause-at_most : goal.returns-in_err-fields-clause-at_most
returns-in_err-fields-clause-at_most g c = λ places among. rises_end _ _ _ _ (c.in_err-fields.ensures.once places among)

pub returns-in_err-line-clause-at_most : goal.returns-in_err-line-clause-at_most
returns-in_err-line-clause-at_most g c = λ places among. rises_end _ _ _ _ (c.in_ok-fields.ensures.once places among)

pub returns-clause-at_most : goal.returns-clause-at_most
returns-clause-at_most g c = λ places among. rises_end _ _ _ _ (c.in_ok-fields.ensures.once places among)
