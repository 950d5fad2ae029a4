use Rattle.std.proofs.Common.{sym, ap, ◌∙◌, ℕ, List, nat_eq}
use Rattle.std.specs.Cmp.Lexicographic.{pointwise}
use Rattle.std.proofs.lemmas.Bool.{false≢true}
use Rattle.pg_map.specs.laws.PageStrings.{item_key}
use Rattle.ct_base.specs.laws.Lists.{same_as_itself}
use Rattle.pg_map.specs.PageStrings.{string_key}
use Rattle.pg_plan.proofs.slots.is_of.Goals as goal

pub returns-in-Some-clause-no : goal.returns-in-Some-clause-no
returns-in-Some-clause-no c = λ no_ item good is key.
    let found = c.in-Some.ensures.key ∙ ap string_key is ∙ item_key item good ∙ key in
    false≢true (sym no_ ∙ c.eq.ensures ∙ ap (λ (l : List ℕ). pointwise nat_eq l c.args.key.now) found ∙ same_as_itself c.args.key.now)
