use Rattle.std.proofs.Common.{ℕ, List, sym, subst}
use Rattle.std.proofs.lemmas.Result.{err_from_is_err_and}
use Rattle.csv_table.specs.Scripts.{IsScriptOf, statements}
use Rattle.csv_table.proofs.spelling.script.Goals as goal

pub returns-clause-script : goal.returns-clause-script
returns-clause-script c =
    let made = c.in_ok-script.ensures in
    subst (λ (s : List ℕ). IsScriptOf s (statements c.args.table.now)) (sym made.text)
    (c.script_is_read.ensures c.args.table.now c.requires (record { create = made.create; inserts = made.inserts }))

pub returns-in_err-script-clause-cause : goal.returns-in_err-script-clause-cause
returns-in_err-script-clause-cause c = let p = err_from_is_err_and c.from_residual.result c.from_residual.ensures.1 in rw (p.1, p.2) c.in_err-script.ensures.cause
