use Rattle.std.proofs.Common.{◌∙◌, inl}
use Rattle.std.proofs.lemmas.Result.{err_from_is_err_and}
use Rattle.csv.specs.Records.{fields_of}
use Rattle.csv_table.proofs.FaultSteps.{row_held, row_key, row_width}
use Rattle.csv_table.proofs.rows.row_of.Goals as goal

pub returns-in_err-fields-clause-cause : goal.returns-in_err-fields-clause-cause
returns-in_err-fields-clause-cause c = let p = err_from_is_err_and c.from_residual.result c.from_residual.ensures.1 in rw (p.1, p.2)
    (inl c.in_err-fields.ensures.cause)

pub returns-in_err-check_width-clause-cause : goal.returns-in_err-check_width-clause-cause
returns-in_err-check_width-clause-cause c = let p = err_from_is_err_and c.from_residual-in_err-check_width.result c.from_residual-in_err-check_width.ensures.1 in rw (p.1, p.2)
    (row_width c.args.width c.args.place _ c.as_slice-texts.result.now (fields_of c.args.record.now) _ (c.as_slice-texts.ensures.value ∙ c.in_ok-fields.ensures.texts)
    c.in_err-check_width.ensures.cause)

pub returns-in_err-check_texts-clause-cause : goal.returns-in_err-check_texts-clause-cause
returns-in_err-check_texts-clause-cause c = let p = err_from_is_err_and c.from_residual-in_err-check_texts.result c.from_residual-in_err-check_texts.ensures.1 in rw (p.1, p.2)
    (row_held c.args.width c.args.place c.as_slice-texts.result.now (fields_of c.args.record.now) _ (c.as_slice-texts.ensures.value ∙ c.in_ok-fields.ensures.texts) c.in_err-check_texts.ensures.cause)

pub returns-in_err-check_key-clause-cause : goal.returns-in_err-check_key-clause-cause
returns-in_err-check_key-clause-cause c = let p = err_from_is_err_and c.from_residual-in_err-check_key.result c.from_residual-in_err-check_key.ensures.1 in rw (p.1, p.2)
    (row_key c.args.width c.args.place _ c.in_ok-fields.fields.items (fields_of c.args.record.now) c.split_field-key.result.0 _ c.in_ok-fields.ensures.texts
    c.split_field-key.ensures.field c.in_err-check_key.ensures.cause)
