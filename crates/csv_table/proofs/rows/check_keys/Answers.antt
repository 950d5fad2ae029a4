use Rattle.std.proofs.Common.{◌∙◌, ap, refl, sym}
use Rattle.std.proofs.lemmas.Result.{err_from_is_err_and}
use Rattle.std.specs.Prelude.{is_some}
use Rattle.csv_table.proofs.FaultSteps.{keys_twice}
use Rattle.csv_table.proofs.TableSteps.{keys_begin, keys_step}
use Rattle.csv_table.proofs.rows.check_keys.Goals as goal

pub rows-init : goal.rows-init
rows-init c = keys_begin _ _ (λ q. rw c.new-lines.ensures.empty refl)

pub rows-preserved : goal.rows-preserved
rows-preserved c =
    keys_step _ c.rows.rest.now c.row-item.result _ _ _ c.in-len1-up.len_at_least c.row-item.is c.rows.invariant refl
    (sym c.in_ok-first.ensures.before ∙ ap is_some c.in_default-2.is) c.in_ok-first.ensures.after

pub returns-in_err-first-clause-cause : goal.returns-in_err-first-clause-cause
returns-in_err-first-clause-cause c = let p = err_from_is_err_and c.from_residual.result c.from_residual.ensures.1 in rw (p.1, p.2)
    tt

pub returns-in-Some-clause-cause : goal.returns-in-Some-clause-cause
returns-in-Some-clause-cause c =
    keys_twice _ c.rows.rest.now c.row-item.result _ c.in-len1-up.len_at_least c.row-item.is c.rows.invariant (sym c.in_ok-first.ensures.before ∙ ap is_some c.in-Some.is)
