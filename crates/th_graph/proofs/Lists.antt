-- Elements of lists, found by tests.
use Rattle.std.proofs.Common.{◌≡◌, ◌<◌, ◌≤◌, ℕ, zero, suc, Bool, true, false, List, [], ◌∷◌, ◌++◌, length, take, drop, get_or, Some, None, refl, sym, ap, ◌∙◌, arith, ◌-◌}
use Rattle.std.specs.Prelude.{◌||◌}
use Rattle.std.specs.List.{list_any, flat_map, slice_get}
use Rattle.std.specs.Str.{bytes_eq}
use Rattle.std.proofs.lemmas.Bool.{false≢true, or_left, or_right}
use Rattle.std.proofs.lemmas.List.Folds.{list_any-append}
use Rattle.std.proofs.lemmas.Slice.Eq.{bytes_eq-Decides}
use Rattle.ct_base.specs.laws.Lists.{first_of}
use Rattle.th_graph.specs.Rising.{is_among_terms}

or_four : (a b c d : Bool) → ((a || b) || (c || d)) ≡ ((a || c) || (b || d))
or_four true b c d = refl
or_four false true true d = refl
or_four false true false d = refl
or_four false false true d = refl
or_four false false false d = refl

module _ {X : Type 0} where
  pub among_flat : (f : X → List (List ℕ)) (q : List ℕ) (xs : List X) → is_among_terms q (flat_map f xs) ≡ list_any (λ x. is_among_terms q (f x)) xs
  among_flat f q [] = refl
  among_flat f q (x ∷ xs) = list_any-append (bytes_eq q) (f x) (flat_map f xs) ∙ ap (λ (b : Bool). is_among_terms q (f x) || b) (among_flat f q xs)

  pub any_alike : (f g : X → Bool) (xs : List X) → ((x : X) → f x ≡ g x) → list_any f xs ≡ list_any g xs
  any_alike f g [] same = refl
  any_alike f g (x ∷ xs) same = ap (λ (b : Bool). b || list_any f xs) (same x) ∙ ap (λ (b : Bool). g x || b) (any_alike f g xs same)

  pub any_either : (f g : X → Bool) (xs : List X) → list_any (λ x. f x || g x) xs ≡ (list_any f xs || list_any g xs)
  any_either f g [] = refl
  any_either f g (x ∷ xs) = ap (λ (b : Bool). (f x || g x) || b) (any_either f g xs) ∙ or_four (f x) (g x) (list_any f xs) (list_any g xs)

  -- where one passes, and stands
  pub any_where : (f : X → Bool) (xs : List X) → list_any f xs ≡ true → (i : ℕ) × ((x : X) × (slice_get xs i ≡ Some x) × (f x ≡ true))
  any_where f [] h = absurd (false≢true h)
  any_where f (x ∷ xs) h = go (any_where f xs) (f x) refl
    where
      go : (list_any f xs ≡ true → (i : ℕ) × ((y : X) × (slice_get xs i ≡ Some y) × (f y ≡ true))) → (b : Bool) → f x ≡ b → (i : ℕ) × ((y : X) × (slice_get (x ∷ xs) i ≡ Some y) × (f y ≡ true))
      go later true here = (0, (x, refl, here))
      go later false none =
          let rest = later (sym (ap (λ (b : Bool). b || list_any f xs) none) ∙ h) in
          (suc rest.0, (rest.1.0, rest.1.1, rest.1.2))

  pub any_from : (f : X → Bool) (xs : List X) (i : ℕ) (x : X) → slice_get xs i ≡ Some x → f x ≡ true → list_any f xs ≡ true
  any_from f [] zero x at passes = cc
  any_from f [] (suc i) x at passes = cc
  any_from f (y ∷ ys) zero x at passes = let e : y ≡ x = cc in or_left (f y) (list_any f ys) (ap f e ∙ passes)
  any_from f (y ∷ ys) (suc i) x at passes = or_right (f y) (list_any f ys) (any_from f ys i x at passes)

-- what a function gives of some places is what it gives of the first, and of the others
pub flat_first : {X : Type 0} (f : ℕ → List X) (places : List ℕ) → 1 ≤ length places → flat_map f places ≡ f (get_or places 0 0) ++ flat_map f (take (length places - 1) (drop 1 places))
flat_first f places some = ap (flat_map f) (first_of places (get_or places 0 0) some (same places))
  where
    same : (xs : List ℕ) → get_or xs 0 0 ≡ get_or xs 0 (get_or xs 0 0)
    same [] = refl
    same (x ∷ xs) = refl

-- a term that is among them is one of them
pub among_one : (f : List ℕ → Bool) (c : List ℕ) (ts : List (List ℕ)) → is_among_terms c ts ≡ true → f c ≡ true → list_any f ts ≡ true
among_one f c [] there passes = absurd (false≢true there)
among_one f c (t ∷ ts) there passes = go (λ h. among_one f c ts h passes) (bytes_eq c t) refl there
  where
    go : (is_among_terms c ts ≡ true → list_any f ts ≡ true) → (b : Bool) → bytes_eq c t ≡ b → (b || is_among_terms c ts) ≡ true → (f t || list_any f ts) ≡ true
    go later true same there = or_left (f t) (list_any f ts) (ap f (sym ((bytes_eq-Decides c t).0 same)) ∙ passes)
    go later false other there = or_right (f t) (list_any f ts) (later there)

pub one_among : (f : List ℕ → Bool) (ts : List (List ℕ)) → list_any f ts ≡ true → (c : List ℕ) × (is_among_terms c ts ≡ true) × (f c ≡ true)
one_among f [] h = absurd (false≢true h)
one_among f (t ∷ ts) h = go (one_among f ts) (f t) refl
  where
    go : (list_any f ts ≡ true → (c : List ℕ) × (is_among_terms c ts ≡ true) × (f c ≡ true)) → (b : Bool) → f t ≡ b → (c : List ℕ) × (is_among_terms c (t ∷ ts) ≡ true) × (f c ≡ true)
    go later true here = (t, or_left (bytes_eq t t) (is_among_terms t ts) ((bytes_eq-Decides t t).1 refl), here)
    go later false none =
        let rest = later (sym (ap (λ (b : Bool). b || list_any f ts) none) ∙ h) in
        (rest.0, or_right (bytes_eq rest.0 t) (is_among_terms rest.0 ts) rest.1, rest.2)

module _ {X : Type 0} where
  pub none_left : (xs : List X) → length xs < 1 → xs ≡ []
  none_left [] few = refl
  none_left (x ∷ xs) few = absurd (omega (arith, few))

  pub none_at : (xs : List X) (i : ℕ) → length xs ≤ i → slice_get xs i ≡ None
  none_at [] zero past = refl
  none_at [] (suc i) past = refl
  none_at (x ∷ xs) zero past = absurd (omega (arith, past))
  none_at (x ∷ xs) (suc i) past = none_at xs i (omega (arith, past))
