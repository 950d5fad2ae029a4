use Rattle.std.proofs.Common.{◌≡◌, ◌||◌, Bool, true, take, sym, ap, ◌∙◌, inl, inr, ⊎_elim}
use Rattle.std.specs.List.{list_any}
use Rattle.std.proofs.lemmas.Bool.{or_cases}
use Rattle.std.proofs.lemmas.List.Folds.{list_any_more}
use Rattle.ct_base.specs.declared.lists.Value.TheVariants.{Number as NumberValue}
use Rattle.st_parse.specs.declared.statements.Operand.{Operand}
use Rattle.st_parse.specs.declared.statements.Compare.TheVariants.{Equal}
use Rattle.db_cond.specs.Conditions.{compares}
use Rattle.db_rows.proofs.bounds.list_bounds.Goals as goal

pub loop-operand-preserved : goal.loop-operand-preserved
loop-operand-preserved c = λ r row there.
    let p : Operand → Bool = λ o. compares Equal (NumberValue r) o in
    let xs = c.args.operands.now in
    let i = c.loop-operand.operand-index in
    let item = c.operand-item.result in
    let split : (list_any p (take i xs) || p item) ≡ true =
    ap (λ (o : Operand). list_any p (take i xs) || p o) c.operand-item.is ∙ sym (list_any_more p xs i item c.loop-operand-test.true) ∙ there in
    c.span-bounds.ensures r (⊎_elim (λ h. inl (c.loop-operand.invariant r row h)) (λ h. inr ((c.compare_bounds.ensures r row).0 h)) (or_cases (list_any p (take i xs)) (p item) split))
