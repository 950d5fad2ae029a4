-- Places in lists.
use Rattle.std.proofs.Common.{◌≡◌, inl, inr, ℕ, Bool, true, false, ◌||◌, List, [], ◌∷◌, refl, ap, subst, ◌∙◌}
use Rattle.std.proofs.lemmas.Bool.{or_cases}
use Rattle.ct_entry.specs.Keys.{same_list}
use Rattle.ct_entry.specs.Lists.{IsIn}
use Rattle.ct_entry.specs.laws.Keys.{list_from_same, list_same}
use Rattle.cat_walk.specs.Places.{is_listed}

pub in_listed : (ps : List (List ℕ)) (place : List ℕ) → is_listed ps place ≡ true → IsIn place ps
in_listed [] place h = cc
in_listed (p ∷ ps) place h = elim (or_cases (same_list place p) (is_listed ps place) h) [
  | inl same ↦ inl (list_from_same place p same)
  | inr later ↦ inr (in_listed ps place later)
]

pub listed_in : (ps : List (List ℕ)) (place : List ℕ) → IsIn place ps → is_listed ps place ≡ true
listed_in [] place h = absurd h
listed_in (p ∷ ps) place (inl is) = ap (λ (t : Bool). t || is_listed ps place) (subst (λ (q : List ℕ). same_list place q ≡ true) is (list_same place))
listed_in (p ∷ ps) place (inr there) = ap (λ (t : Bool). same_list place p || t) (listed_in ps place there) ∙ or_yes (same_list place p)
  where
    or_yes : (t : Bool) → (t || true) ≡ true
    or_yes true = refl
    or_yes false = refl
