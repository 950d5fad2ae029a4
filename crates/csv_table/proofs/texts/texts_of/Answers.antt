use denote.Ref.{Bor}
use Rattle.std.proofs.Common.{List, ℕ, ◌∙◌, ap, arith, sym}
use Rattle.std.specs.Option.{option_map}
use Rattle.std.proofs.lemmas.Result.{err_from_is_err_and}
use Rattle.csv.specs.Records.{fields_of}
use Rattle.csv_table.proofs.FaultSteps.{utf8_at}
use Rattle.csv_table.proofs.texts.texts_of.Goals as goal

pub returns-in_err-text-clause-cause : goal.returns-in_err-text-clause-cause
returns-in_err-text-clause-cause c = let p = err_from_is_err_and c.from_residual.result c.from_residual.ensures.1 in rw (p.1, p.2)
    (utf8_at (fields_of c.args.record.now) c.len.result _ c.in-Some.bytes.now c.args.line _ (sym c.get.ensures.value ∙ ap (option_map (λ (s : Bor (List ℕ)). s.now)) c.in-Some.is)
    (omega (arith, c.len.ensures, c.len-in-Some.ensures)) c.in_err-text.ensures.cause)

pub returns-in_err-push-clause-cause : goal.returns-in_err-push-clause-cause
returns-in_err-push-clause-cause c = let p = err_from_is_err_and c.from_residual-in_err-push.result c.from_residual-in_err-push.ensures.1 in rw (p.1, p.2)
    tt
