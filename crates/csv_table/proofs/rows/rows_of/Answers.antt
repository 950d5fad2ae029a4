use Rattle.std.proofs.Common.{inl, refl}
use Rattle.std.proofs.lemmas.Result.{err_from_is_err_and}
use Rattle.csv.specs.Records.{fields_of}
use Rattle.csv_table.specs.declared.refusals.Refusal.TheVariants.{Memory}
use Rattle.csv_table.specs.Faults.{RowFault}
use Rattle.csv_table.proofs.FaultSteps.{one_first, one_later}
use Rattle.csv_table.proofs.TableSteps.{rows_step}
use Rattle.csv_table.proofs.rows.rows_of.Goals as goal

pub records-preserved : goal.records-preserved
records-preserved c =
    let inv = c.records.invariant in
    let step = rows_step fields_of c.args.place c.args.width c.args.records.now c.records.rest.now c.record-item.result c.records.rows.items _ c.in_ok-row.row
    c.in-len1-up.len_at_least c.record-item.is
    (inv.0, inv.1) c.in_ok-row.ensures.fields c.in_ok-row.ensures.full c.in_ok-push.ensures.items in
    (step.0, step.1, λ e one. inv.2 e (one_later (λ r. RowFault c.args.width c.args.place (fields_of r) e) c.records.rest.now c.record-item.result c.in-len1-up.len_at_least c.record-item.is one))

pub returns-in_err-row-clause-cause : goal.returns-in_err-row-clause-cause
returns-in_err-row-clause-cause c = let p = err_from_is_err_and c.from_residual.result c.from_residual.ensures.1 in rw (p.1, p.2)
    (c.records.invariant.2 _ (one_first _ c.records.rest.now c.record-item.result c.in-len1-up.len_at_least c.record-item.is c.in_err-row.ensures.cause))

pub returns-in_err-push-clause-cause : goal.returns-in_err-push-clause-cause
returns-in_err-push-clause-cause c = let p = err_from_is_err_and c.from_residual-in_err-push.result c.from_residual-in_err-push.ensures.1 in rw (p.1, p.2)
    (c.records.invariant.2 Memory (one_first (λ r. RowFault c.args.width c.args.place (fields_of r) Memory) c.records.rest.now c.record-item.result c.in-len1-up.len_at_least
    c.record-item.is (inl tt)))

pub records-init : goal.records-init
records-init c = (rw c.new-rows.ensures.items refl, λ count wide. rw c.new-rows.ensures.items tt, λ e one. one)
