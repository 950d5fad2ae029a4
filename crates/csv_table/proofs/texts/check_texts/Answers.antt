use Rattle.std.proofs.Common.{arith}
use Rattle.std.proofs.lemmas.Result.{err_from_is_err_and}
use Rattle.csv_table.specs.Tables.{IsField}
use Rattle.csv_table.proofs.FaultSteps.{all_later, follows_all, follows_on, follows_short, held_here}
use Rattle.csv_table.proofs.texts.check_texts.Goals as goal

pub texts-init : goal.texts-init
texts-init c = (λ all. all, omega arith, follows_all c.args.texts.now)

pub texts-preserved : goal.texts-preserved
texts-preserved c =
    let next = follows_on c.args.texts.now c.texts.rest.now c.text-item.result c.in-len1-up.len_at_least c.text-item.is c.texts.invariant.2 in
    let field = rw c.as_str.ensures at c.in_ok-check_text.ensures.field in (
      λ all. c.texts.invariant.0 (all_later IsField c.texts.rest.now c.text-item.result c.in-len1-up.len_at_least c.text-item.is field all),
      follows_short c.args.texts.now _ next,
      next,
    )

pub returns-in_err-check_text-clause-cause : goal.returns-in_err-check_text-clause-cause
returns-in_err-check_text-clause-cause c = let p = err_from_is_err_and c.from_residual.result c.from_residual.ensures.1 in rw (p.1, p.2)
    (held_here c.args.texts.now c.texts.rest.now c.text-item.result c.args.line _ c.in-len1-up.len_at_least c.text-item.is c.texts.invariant.2
    (rw c.as_str.ensures at c.in_err-check_text.ensures.cause))
