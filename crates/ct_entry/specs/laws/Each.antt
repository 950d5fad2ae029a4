-- What a key has after changes for each of several things.
use Rattle.std.proofs.Common.{◌≡◌, ℕ, Bool, true, false, cond, List, [], ◌∷◌, ◌++◌, Option, None, map, refl, sym, ap, ◌∙◌, append_assoc}
use Rattle.std.specs.Prelude.{◌||◌}
use Rattle.std.specs.List.{list_any}
use Rattle.ct_entry.specs.Keys.{Key}
use Rattle.ct_entry.specs.Changes.{told, AreChanges, AllOf, AllOn}
use Rattle.ct_entry.specs.Each.{each, latest}
use Rattle.ct_entry.specs.laws.Changes.{told-append, are-append, all-append, all_on-append}
use Rattle.ct_entry.specs.declared.kinds.Kind.{Kind}

module _ {I : Type 0} where
  -- the last that hits the key counts
  pub told_latest : (changes : I → List (Key × Option (List ℕ))) (k : Key) (hit : I → Bool) (value : I → Option (List ℕ)) → ((i : I) (old : Option (List ℕ)) → told (changes i) k old ≡ cond (hit i) (value i) old)
      → (is : List I) (old : Option (List ℕ)) → told (each changes is) k old ≡ latest hit value is old
  told_latest changes k hit value one [] old = refl
  told_latest changes k hit value one (i ∷ is) old =
      told-append (changes i) (each changes is) k old
      ∙ ap (told (each changes is) k) (one i old)
      ∙ told_latest changes k hit value one is (cond (hit i) (value i) old)

  pub latest_same : (hit : I → Bool) (v : Option (List ℕ)) (is : List I) (old : Option (List ℕ)) → latest hit (λ _. v) is old ≡ cond (list_any hit is) v old
  latest_same hit v [] old = refl
  latest_same hit v (i ∷ is) old = latest_same hit v is (cond (hit i) v old) ∙ go (hit i) (list_any hit is)
    where
      go : (a b : Bool) → cond b v (cond a v old) ≡ cond (a || b) v old
      go true true = refl
      go true false = refl
      go false true = refl
      go false false = refl

  pub latest-append : (hit : I → Bool) (value : I → Option (List ℕ)) (xs ys : List I) (old : Option (List ℕ)) → latest hit value (xs ++ ys) old ≡ latest hit value ys (latest hit value xs old)
  latest-append hit value [] ys old = refl
  latest-append hit value (x ∷ xs) ys old = latest-append hit value xs ys (cond (hit x) (value x) old)

  -- where none hits, nothing is changed
  pub latest_miss : (hit : I → Bool) (value : I → Option (List ℕ)) (xs : List I) (old : Option (List ℕ)) → list_any hit xs ≡ false → latest hit value xs old ≡ old
  latest_miss hit value [] old h = refl
  latest_miss hit value (x ∷ xs) old h = step (hit x) refl h (latest_miss hit value xs old)
    where
      step : (b : Bool) → hit x ≡ b → (b || list_any hit xs) ≡ false → (list_any hit xs ≡ false → latest hit value xs old ≡ old) → latest hit value xs (cond (hit x) (value x) old) ≡ old
      step true e h rest = cc
      step false e h rest = ap (λ (b : Bool). latest hit value xs (cond b (value x) old)) e ∙ rest h

  -- what was put is gone once it is dropped
  pub latest_gone : (hit : I → Bool) (value : I → Option (List ℕ)) (xs : List I) → latest hit (λ _. None) xs (latest hit value xs None) ≡ None
  latest_gone hit value xs = latest_same hit None xs (latest hit value xs None) ∙ go (list_any hit xs) refl
    where
      go : (b : Bool) → list_any hit xs ≡ b → cond b None (latest hit value xs None) ≡ None
      go true h = refl
      go false h = latest_miss hit value xs None h

  -- where the changes of each that hits the key give it one value, so do those of all
  pub told_each : (changes : I → List (Key × Option (List ℕ))) (k : Key) (hit : I → Bool) (v : Option (List ℕ)) → ((i : I) (old : Option (List ℕ)) → told (changes i) k old ≡ cond (hit i) v old)
      → (is : List I) (old : Option (List ℕ)) → told (each changes is) k old ≡ cond (list_any hit is) v old
  told_each changes k hit v one is old = told_latest changes k hit (λ _. v) one is old ∙ latest_same hit v is old

  -- where the changes of none change the key, nor do those of all
  pub told_each_none : (changes : I → List (Key × Option (List ℕ))) (k : Key) → ((i : I) (old : Option (List ℕ)) → told (changes i) k old ≡ old) → (is : List I) (old : Option (List ℕ)) → told (each changes is) k old ≡ old
  told_each_none changes k none [] old = refl
  told_each_none changes k none (i ∷ is) old = told-append (changes i) (each changes is) k old ∙ told_each_none changes k none is (told (changes i) k old) ∙ none i old

  pub each-append : (changes : I → List (Key × Option (List ℕ))) (is js : List I) → each changes (is ++ js) ≡ each changes is ++ each changes js
  each-append changes [] js = refl
  each-append changes (i ∷ is) js = ap (λ ws. changes i ++ ws) (each-append changes is js) ∙ sym (append_assoc (changes i) (each changes is) (each changes js))

  pub are_each : (changes : I → List (Key × Option (List ℕ))) → ((i : I) → AreChanges (changes i)) → (is : List I) → AreChanges (each changes is)
  are_each changes one [] = tt
  are_each changes one (i ∷ is) = are-append (changes i) (each changes is) (one i) (are_each changes one is)

  pub all_each : (p : Kind → Bool) (changes : I → List (Key × Option (List ℕ))) → ((i : I) → AllOf p (changes i)) → (is : List I) → AllOf p (each changes is)
  all_each p changes one [] = tt
  all_each p changes one (i ∷ is) = all-append p (changes i) (each changes is) (one i) (all_each p changes one is)

-- one change for each
pub map-each : {I : Type 0} (change : I → Key × Option (List ℕ)) (is : List I) → map change is ≡ each (λ i. change i ∷ []) is
map-each change [] = refl
map-each change (i ∷ is) = ap (λ (ws : List (Key × Option (List ℕ))). change i ∷ ws) (map-each change is)

pub all_on-each : {I : Type 0} (i : List ℕ) (changes : I → List (Key × Option (List ℕ))) → ((p : I) → AllOn i (changes p)) → (ps : List I)
    → AllOn i (each changes ps)
all_on-each i changes one [] = tt
all_on-each i changes one (p ∷ ps) = all_on-append i (changes p) (each changes ps) (one p) (all_on-each i changes one ps)
