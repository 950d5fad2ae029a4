use Rattle.std.proofs.Common.{ap, ◌∙◌}
use Rattle.std.specs.List.{filter_map}
use Rattle.std.proofs.lemmas.Result.{err_from_is_err_and}
use Rattle.db_rows.specs.Values.{row_values}
use Rattle.db_rows.specs.laws.Texts.{rises_given}
use Rattle.db_select.specs.Fields.{found_value}
use Rattle.db_select.proofs.FieldSteps.{present_values}
use Rattle.db_select.proofs.fields.row_fields.Goals as goal

pub returns-clause-fields : goal.returns-clause-fields
returns-clause-fields g c = λ m k holds stands own.
    c.in_ok-fields.ensures
    ∙ ap (filter_map (λ o. o)) (c.in_ok-values.ensures.values m k holds stands own)
    ∙ present_values (found_value c.args.hit (row_values m.tables c.args.table.now c.args.hit.key.0)) c.args.sources.now

-- ---- each text once

pub returns-in_err-values-clause-once : goal.returns-in_err-values-clause-once
returns-in_err-values-clause-once g c = λ places among.
    rw (err_from_is_err_and c.from_residual.result c.from_residual.ensures.1).1 (c.in_err-values.ensures.once places among)

pub returns-in_err-fields-clause-once : goal.returns-in_err-fields-clause-once
returns-in_err-fields-clause-once g c = λ places among.
    rw (err_from_is_err_and c.from_residual-in_err-fields.result c.from_residual-in_err-fields.ensures.1).1 (rises_given _ _ _ _ (c.in_ok-values.ensures.once places among))

pub returns-clause-once : goal.returns-clause-once
returns-clause-once g c = c.in_ok-values.ensures.once
