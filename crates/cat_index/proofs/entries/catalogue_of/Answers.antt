use Rattle.std.proofs.Common.{ℕ, List, Option, Some, Vec, sym, ap, subst, ◌∙◌}
use Rattle.std.specs.declared.alloc.Global.{Global}
use Rattle.std.specs.Option.{option_map}
use Rattle.cat_index.specs.Spelling.{SpellsCatalogue}
use Rattle.cat_index.proofs.entries.catalogue_of.Goals as goal

pub returns-clause-value : goal.returns-clause-value
returns-clause-value g c = λ m holds.
    subst (λ (e : Option (List ℕ)). SpellsCatalogue e c.in_ok-found.found)
    (ap (λ (l : List ℕ). Some l) c.deref.ensures.value ∙ sym (ap (λ (o : Option (Vec ℕ Global)). option_map (λ v. v.items) o) c.in-Some.is) ∙ c.in_ok-value.ensures.value m holds)
    c.in_ok-found.ensures.spells
