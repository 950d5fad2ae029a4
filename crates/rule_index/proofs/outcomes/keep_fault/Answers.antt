use Rattle.std.proofs.Common.{ap, subst, sym, ◌∙◌}
use Rattle.std.specs.Prelude.{IfOk}
use Rattle.rule_index.specs.Kept.{IsKept}
use Rattle.rule_index.specs.Outcomes.{Outcome, is_stored_fault, kept_fault}
use Rattle.rule_index.proofs.OutcomeSteps.{kept_text, text_over}
use Rattle.rule_index.proofs.outcomes.keep_fault.Goals as goal

pub returns-then-is_stored_fault : goal.returns-then-is_stored_fault
returns-then-is_stored_fault c = λ t e.
    let h = ap is_stored_fault (sym c.as_str.ensures) ∙ sym c.is_stored_fault.ensures ∙ c.if-is_stored_fault.true in
    (ap kept_fault (sym e) ∙ kept_text c.args.text h, h)

pub returns-else-is_stored_fault : goal.returns-else-is_stored_fault
returns-else-is_stored_fault c = λ t e.
    let h = ap is_stored_fault (sym c.as_str.ensures) ∙ sym c.is_stored_fault.ensures ∙ c.if-is_stored_fault.false in
    subst (λ (o : Outcome). IfOk c.over_limits.result (λ k. IsKept k o)) (sym (ap kept_fault (sym e) ∙ text_over c.args.text h)) c.over_limits.ensures
