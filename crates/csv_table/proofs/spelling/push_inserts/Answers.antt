use Rattle.std.proofs.Common.{◌≡◌, ◌≤◌, ◌∙◌, List, ℕ, length, refl, subst}
use Rattle.std.proofs.lemmas.Result.{err_from_is_err_and}
use Rattle.csv_table.specs.declared.refusals.Refusal.TheVariants.{Memory}
use Rattle.csv_table.specs.Faults.{InsertFault}
use Rattle.csv_table.specs.Scripts.{statement_limit}
use Rattle.csv_table.specs.Spelling.{insert_text}
use Rattle.csv_table.proofs.FaultSteps.{all_later, inserts_step, long_of, one_first, one_later}
use Rattle.csv_table.proofs.spelling.push_inserts.Goals as goal

pub returns-in_err-statement-clause-cause : goal.returns-in_err-statement-clause-cause
returns-in_err-statement-clause-cause c = let p = err_from_is_err_and c.from_residual.result c.from_residual.ensures.1 in rw (p.1, p.2)
    (c.rows.invariant.2 Memory (one_first (λ r. InsertFault c.args.name.now c.args.columns.now r Memory) c.rows.rest.now c.row-item.result c.in-len1-up.len_at_least c.row-item.is tt))

pub returns-in_err-push_statement-clause-cause : goal.returns-in_err-push_statement-clause-cause
returns-in_err-push_statement-clause-cause c = let p = err_from_is_err_and c.from_residual-in_err-push_statement.result c.from_residual-in_err-push_statement.ensures.1 in rw (p.1, p.2)
    (c.rows.invariant.2 _ (one_first (λ r. InsertFault c.args.name.now c.args.columns.now r _) c.rows.rest.now c.row-item.result c.in-len1-up.len_at_least c.row-item.is
    (long_of c.row-item.result.line (insert_text c.args.name.now c.args.columns.now c.row-item.result) _ _ (c.as_slice.ensures.value ∙ c.in_ok-statement.ensures)
    c.in_err-push_statement.ensures.cause)))

pub rows-init : goal.rows-init
rows-init c = (refl, λ short. short, λ e one. one)

pub rows-preserved : goal.rows-preserved
rows-preserved c =
    let inv = c.rows.invariant in
    let same : c.as_slice.result.now ≡ insert_text c.args.name.now c.args.columns.now c.row-item.result = c.as_slice.ensures.value ∙ c.in_ok-statement.ensures in
    let short = subst (λ (t : List ℕ). length t ≤ statement_limit) same c.in_ok-push_statement.ensures.short in (
      inserts_step c.args.name.now c.args.columns.now _ _ _ c.rows.rest.now c.row-item.result _ c.in-len1-up.len_at_least c.row-item.is same c.in_ok-push_statement.ensures.text inv.0,
      λ all. inv.1 (all_later (λ r. length (insert_text c.args.name.now c.args.columns.now r) ≤ statement_limit) c.rows.rest.now c.row-item.result c.in-len1-up.len_at_least c.row-item.is short all),
      λ e one. inv.2 e (one_later (λ r. InsertFault c.args.name.now c.args.columns.now r e) c.rows.rest.now c.row-item.result c.in-len1-up.len_at_least c.row-item.is one),
    )
