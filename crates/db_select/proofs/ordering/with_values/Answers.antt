use Rattle.std.proofs.Common.{refl}
use Rattle.std.proofs.lemmas.Result.{err_from_is_err_and}
use Rattle.db_select.proofs.OrderSteps.{none_valued, row_valued}
use Rattle.db_select.proofs.ordering.with_values.Goals as goal

pub returns-clause-row : goal.returns-clause-row
returns-clause-row g c = λ m k holds stands. record {
  hit = refl;
  values = λ own. c.in_ok-values.ensures.values m k holds stands own;
  own = λ own. c.in_ok-values.ensures.read m k holds stands own;
}

pub returns-in_err-values-clause-within : goal.returns-in_err-values-clause-within
returns-in_err-values-clause-within g c = λ places among.
    rw (err_from_is_err_and c.from_residual.result c.from_residual.ensures.1).1
    (none_valued places c.args.row _ _ (c.in_err-values.ensures.once places among))

pub returns-clause-within : goal.returns-clause-within
returns-clause-within g c = λ places among.
    row_valued places c.args.row (record { key = c.args.row.hit.key; score = c.args.row.hit.score; values = c.in_ok-values.values; item = c.field_values.new.read }) _ _ (c.in_ok-values.ensures.once places among)
