use Rattle.std.proofs.Common.{◌≡◌, ◌<◌, ◌∙◌, List, ℕ, ap, arith, eqb-true, inl, inr, length, subst, sym, vec_len}
use Rattle.std.proofs.lemmas.Result.{err_from_is_err_and}
use Rattle.ct_base.specs.Limits.{column_limit}
use Rattle.csv.specs.Records.{fields_of}
use Rattle.csv_table.specs.Faults.{lower_names}
use Rattle.csv_table.specs.Tables.{names_apart}
use Rattle.csv_table.proofs.FaultSteps.{header_name}
use Rattle.csv_table.proofs.names.names_of.Goals as goal

pub returns-in_err-texts-clause-cause : goal.returns-in_err-texts-clause-cause
returns-in_err-texts-clause-cause c = let p = err_from_is_err_and c.from_residual.result c.from_residual.ensures.1 in rw (p.1, p.2)
    (inl c.in_err-texts.ensures.cause)

pub returns-in_err-names-clause-cause : goal.returns-in_err-names-clause-cause
returns-in_err-names-clause-cause c = let p = err_from_is_err_and c.from_residual-in_err-names.result c.from_residual-in_err-names.ensures.1 in rw (p.1, p.2)
    (header_name c.as_slice.result.now (fields_of c.args.header.now) _ (c.as_slice.ensures.value ∙ c.in_ok-texts.ensures.texts) c.in_err-names.ensures.cause)

pub returns-then-is_empty-clause-cause : goal.returns-then-is_empty-clause-cause
returns-then-is_empty-clause-cause c =
    let none : vec_len c.in_ok-texts.texts ≡ 0 = eqb-true (vec_len c.in_ok-texts.texts) 0 (sym c.is_empty.ensures ∙ c.if-is_empty.true) in
    inr (inr (ap length (sym c.in_ok-texts.ensures.texts) ∙ omega (arith, none)))

pub returns-then-len-gt-COLUMN_LIMIT-clause-cause : goal.returns-then-len-gt-COLUMN_LIMIT-clause-cause
returns-then-len-gt-COLUMN_LIMIT-clause-cause c =
    let many : column_limit < length c.in_ok-texts.texts.items = omega (arith, c.len.ensures, c.if-len-gt-COLUMN_LIMIT.true) in
    inr (inr (subst (λ (ts : List (List ℕ)). column_limit < length ts) c.in_ok-texts.ensures.texts many))

pub returns-then-not-are_apart-clause-cause : goal.returns-then-not-are_apart-clause-cause
returns-then-not-are_apart-clause-cause c =
    inr (inr (ap (λ (fs : List (List ℕ)). names_apart (lower_names fs)) (sym (c.as_slice.ensures.value ∙ c.in_ok-texts.ensures.texts))
    ∙ ap names_apart (c.in_ok-names.ensures.lower ∙ sym c.as_slice-2.ensures.value) ∙ sym c.are_apart.ensures ∙ c.if-not-are_apart.true))
