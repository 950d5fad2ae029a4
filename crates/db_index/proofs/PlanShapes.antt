-- The changes of indexes are ones that a store takes.
use Rattle.std.proofs.Common.{◌≡◌, ℕ, List, [], Option, sym, subst, inl, inr}
use Rattle.ct_entry.specs.Keys.{Key}
use Rattle.ct_entry.specs.Shapes.{AreShaped}
use Rattle.ct_entry.specs.laws.Shapes.{are_shaped_weaker}
use Rattle.ix_context.specs.Shapes.{HasContextValue}
use Rattle.cat_index.specs.Shapes.{HasCatalogueValue}
use Rattle.rule_index.specs.Shapes.{HasRuleValue}
use Rattle.db_state.specs.Shapes.{AreStoreChanges, HasStoreValue}

-- what was put into an empty batch
into_empty : (rule : Key → List ℕ → Type 0) → ((k : Key) (value : List ℕ) → rule k value → HasStoreValue k value) → (none new : List (List ℕ × Option (List ℕ))) → none ≡ []
    → (AreShaped rule none → AreShaped rule new) → AreStoreChanges new
into_empty rule weaker none new empty keeps = are_shaped_weaker rule HasStoreValue weaker new (keeps (subst (AreShaped rule) (sym empty) tt))

pub of_contexts : (none new : List (List ℕ × Option (List ℕ))) → none ≡ [] → (AreShaped HasContextValue none → AreShaped HasContextValue new) → AreStoreChanges new
of_contexts none new empty keeps = into_empty HasContextValue (λ k value has. inr (inl (inl has))) none new empty keeps

pub of_catalogues : (none new : List (List ℕ × Option (List ℕ))) → none ≡ [] → (AreShaped HasCatalogueValue none → AreShaped HasCatalogueValue new) → AreStoreChanges new
of_catalogues none new empty keeps = into_empty HasCatalogueValue (λ k value has. inr (inl (inr (inl has)))) none new empty keeps

pub of_rules : (none new : List (List ℕ × Option (List ℕ))) → none ≡ [] → (AreShaped HasRuleValue none → AreShaped HasRuleValue new) → AreStoreChanges new
of_rules none new empty keeps = into_empty HasRuleValue (λ k value has. inr (inl (inr (inr has)))) none new empty keeps
