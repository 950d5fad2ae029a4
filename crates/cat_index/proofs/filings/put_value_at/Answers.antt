use Rattle.std.proofs.Common.{◌≤◌, ◌++◌, Option, sym, ap, subst, ◌∙◌, arith}
use Rattle.std.proofs.lemmas.Result.{on_ok_weaker}
use Rattle.ct_base.specs.declared.lists.Value.{Value}
use Rattle.cat_index.specs.Filings.{value_bytes}
use Rattle.cat_index.specs.Shapes.{IsItem}
use Rattle.cat_index.proofs.FilingSteps.{value_got_at}
use Rattle.cat_index.proofs.filings.put_value_at.Goals as goal

pub returns-clause-bytes : goal.returns-clause-bytes
returns-clause-bytes c =
    let behind : 1 ≤ c.args.place = omega arith in
    let same = c.value_got.ensures ∙ sym (value_got_at c.args.key.0 c.args.values.now c.args.place behind) in
    on_ok_weaker c.put_value.result (λ is. is ∙ ap (λ (o : Option Value). c.args.out.now.items ++ value_bytes o) same) c.put_value.ensures.bytes

pub returns-clause-item : goal.returns-clause-item
returns-clause-item c =
    let behind : 1 ≤ c.args.place = omega arith in
    subst (λ (o : Option Value). IsItem (value_bytes o)) (c.value_got.ensures ∙ sym (value_got_at c.args.key.0 c.args.values.now c.args.place behind)) c.put_value.ensures.item
