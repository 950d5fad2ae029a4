use Rattle.std.proofs.Common.{◌≡◌, arith, false, refl, sym}
use Rattle.std.proofs.lemmas.Result.{err_from_is_err_and}
use Rattle.csv_table.specs.Faults.{is_plain_name}
use Rattle.csv_table.proofs.FaultSteps.{field_here, follows_all, names_step}
use Rattle.csv_table.proofs.names.plain_names.Goals as goal

pub fields-init : goal.fields-init
fields-init c = (rw c.new-names.ensures.items refl, rw c.new-names.ensures.items tt, omega arith, follows_all c.args.header.now)

pub fields-preserved : goal.fields-preserved
fields-preserved c =
    let lower = rw (c.in-Some.is, c.as_str.ensures) at c.in_ok-name.ensures.name in
    let plain = rw c.in-Some.is at c.in_ok-name.ensures.plain in
    names_step c.args.header.now c.fields.rest.now c.fields.names.items _ c.field-item.result c.in-Some.name c.in-len1-up.len_at_least c.field-item.is c.fields.invariant lower
    plain c.in_ok-push.ensures.items

pub returns-in_err-name-clause-cause : goal.returns-in_err-name-clause-cause
returns-in_err-name-clause-cause c = let p = err_from_is_err_and c.from_residual.result c.from_residual.ensures.1 in rw (p.1, p.2)
    tt

pub returns-in_err-push-clause-cause : goal.returns-in_err-push-clause-cause
returns-in_err-push-clause-cause c = let p = err_from_is_err_and c.from_residual-in_err-push.result c.from_residual-in_err-push.ensures.1 in rw (p.1, p.2)
    tt

pub returns-in_default-2-clause-cause : goal.returns-in_default-2-clause-cause
returns-in_default-2-clause-cause c =
    let told = rw (c.in_default-2.is, c.as_str.ensures) at c.in_ok-name.ensures.told in
    field_here (λ t. is_plain_name t ≡ false) c.args.header.now c.fields.rest.now c.field-item.result c.in-len1-up.len_at_least c.field-item.is c.fields.invariant.3 (sym {b = is_plain_name c.field-item.result} told)
