-- Elements of lists, those that stand once, and sums over them.
use Rattle.std.proofs.Common.{◌≡◌, ℕ, ◌+◌, ◌≤◌, Bool, true, false, cond, List, [], ◌∷◌, ◌++◌, map, refl, sym, ap, subst, ◌∙◌, ◌⊎◌, inl, inr, arith}
use Rattle.std.specs.Prelude.{sum_by, filter, not}
use Rattle.std.specs.List.{flat_map}
use Rattle.std.proofs.lemmas.List.Sums.{sum_by-cons, sum_by-append}
use Rattle.std.proofs.lemmas.List.Filters.{sum_by-filter_both}
use Rattle.ct_entry.specs.Lists.{IsIn, AreApart, EachIs}

module _ {A : Type 0} where
  pub in_left : (x : A) (xs ys : List A) → IsIn x xs → IsIn x (xs ++ ys)
  in_left x [] ys h = absurd h
  in_left x (y ∷ xs) ys h = elim h [ inl e ↦ inl e | inr t ↦ inr (in_left x xs ys t) ]

  pub in_right : (x : A) (xs ys : List A) → IsIn x ys → IsIn x (xs ++ ys)
  in_right x [] ys h = h
  in_right x (y ∷ xs) ys h = inr (in_right x xs ys h)

  pub in_either : (x : A) (xs ys : List A) → IsIn x (xs ++ ys) → IsIn x xs ⊎ IsIn x ys
  in_either x [] ys h = inr h
  in_either x (y ∷ xs) ys h = elim h [
    | inl e ↦ inl (inl e)
    | inr t ↦ elim (in_either x xs ys t) [ inl a ↦ inl (inr a) | inr b ↦ inr b ]
  ]

  -- what stands before an element, and what behind it
  split_at : (x : A) (xs : List A) → IsIn x xs → (front rest : List A) × (xs ≡ front ++ x ∷ rest)
  split_at x [] h = absurd h
  split_at x (y ∷ ys) h = elim h [
    | inl e ↦ ([], ys, ap (λ (z : A). z ∷ ys) (sym e))
    | inr t ↦ let s = split_at x ys t in (y ∷ s.0, s.1, ap (λ (zs : List A). y ∷ zs) s.2)
  ]

  -- an element other than the one taken out stays
  stays : (y x : A) (front rest : List A) → (y ≡ x → ⊥) → IsIn y (front ++ x ∷ rest) → IsIn y (front ++ rest)
  stays y x [] rest other h = elim h [ inl e ↦ absurd (other e) | inr t ↦ t ]
  stays y x (a ∷ front) rest other h = elim h [ inl e ↦ inl e | inr t ↦ inr (stays y x front rest other t) ]

  pub sum_by-within : (w : A → ℕ) (xs ys : List A) → AreApart xs → ((x : A) → IsIn x xs → IsIn x ys) → sum_by w xs ≤ sum_by w ys
  sum_by-within w [] ys apart within = omega arith
  sum_by-within w (x ∷ xs) ys apart within =
      let s = split_at x ys (within x (inl refl)) in
      let rest = sum_by-within w xs (s.0 ++ s.1) apart.1 (λ y h. stays y x s.0 s.1 (λ e. apart.0 (subst (λ (z : A). IsIn z xs) e h)) (subst (λ (zs : List A). IsIn y zs) s.2 (within y (inr h)))) in
      omega (arith, sum_by-cons w x xs, ap (sum_by w) s.2, sum_by-append w s.0 (x ∷ s.1), sum_by-cons w x s.1, sum_by-append w s.0 s.1, rest)

  -- an element that passes a test is among those that do, and those that do are elements
  pub in_filter : (p : A → Bool) (x : A) (xs : List A) → IsIn x (filter p xs) → IsIn x xs × (p x ≡ true)
  in_filter p x [] h = absurd h
  in_filter p x (y ∷ ys) h =
      elim (p y) as (λ b. p y ≡ b → IsIn x (cond b (y ∷ filter p ys) (filter p ys)) → IsIn x (y ∷ ys) × (p x ≡ true)) [
        | true ↦ λ t h. elim h [ inl e ↦ (inl e, ap p e ∙ t) | inr r ↦ let i = in_filter p x ys r in (inr i.0, i.1) ]
        | false ↦ λ t h. let i = in_filter p x ys h in (inr i.0, i.1)
      ] refl h

  pub apart_filter : (p : A → Bool) (xs : List A) → AreApart xs → AreApart (filter p xs)
  apart_filter p [] h = tt
  apart_filter p (x ∷ xs) h =
      elim (p x) as (λ b. AreApart (cond b (x ∷ filter p xs) (filter p xs))) [
        | true ↦ ((λ i. h.0 (in_filter p x xs i).0), apart_filter p xs h.1)
        | false ↦ apart_filter p xs h.1
      ]

  -- a list whose elements stand once, in two parts by a test
  pub sum_by-parts : (p : A → Bool) (w : A → ℕ) (xs : List A) → sum_by w (filter p xs) + sum_by w (filter (λ x. not (p x)) xs) ≡ sum_by w xs
  sum_by-parts p w xs = sum_by-filter_both p (λ x. not (p x)) (λ x. refl) w xs

  pub apart_append : (xs ys : List A) → AreApart xs → AreApart ys → ((x : A) → IsIn x xs → IsIn x ys → ⊥) → AreApart (xs ++ ys)
  apart_append [] ys a b none = b
  apart_append (x ∷ xs) ys a b none = (
    (λ h. elim (in_either x xs ys h) [ inl i ↦ a.0 i | inr j ↦ none x (inl refl) j ]),
    apart_append xs ys a.1 b (λ y i j. none y (inr i) j),
  )

  pub each_is-append : (P : A → Type 0) (xs ys : List A) → EachIs P xs → EachIs P ys → EachIs P (xs ++ ys)
  each_is-append P [] ys a b = b
  each_is-append P (x ∷ xs) ys a b = (a.0, each_is-append P xs ys a.1 b)

  pub each_at_in : (P : A → Type 0) (x : A) (xs : List A) → EachIs P xs → IsIn x xs → P x
  each_at_in P x [] each h = absurd h
  each_at_in P x (y ∷ ys) each h = elim h [ inl e ↦ subst P (sym e) each.0 | inr t ↦ each_at_in P x ys each.1 t ]

module _ {A B : Type 0} where
  -- each of what is made is made of an element
  pub in_map : (f : A → B) (y : B) (xs : List A) → IsIn y (map f xs) → (x : A) × IsIn x xs × (y ≡ f x)
  in_map f y [] h = absurd h
  in_map f y (x ∷ xs) h = elim h [ inl e ↦ (x, inl refl, e) | inr t ↦ let r = in_map f y xs t in (r.0, inr r.1, r.2) ]

  pub in_flat_map : (f : A → List B) (y : B) (xs : List A) → IsIn y (flat_map f xs) → (x : A) × IsIn x xs × IsIn y (f x)
  in_flat_map f y [] h = absurd h
  in_flat_map f y (x ∷ xs) h = elim (in_either y (f x) (flat_map f xs) h) [
    | inl a ↦ (x, inl refl, a)
    | inr b ↦ let r = in_flat_map f y xs b in (r.0, inr r.1, r.2)
  ]

  -- what is made of elements that stand once stands once, where each makes what stands once, and no two make the same
  pub apart_flat_map : (f : A → List B) (xs : List A) → AreApart xs → ((x : A) → IsIn x xs → AreApart (f x)) → ((x y : A) (b : B) → IsIn x xs → IsIn y xs → IsIn b (f x) → IsIn b (f y) → x ≡ y) → AreApart (flat_map f xs)
  apart_flat_map f [] apart each one = tt
  apart_flat_map f (x ∷ xs) apart each one =
      apart_append (f x) (flat_map f xs) (each x (inl refl))
      (apart_flat_map f xs apart.1 (λ y i. each y (inr i)) (λ y z b i j. one y z b (inr i) (inr j)))
      (λ b i j. let r = in_flat_map f b xs j in apart.0 (subst (λ (z : A). IsIn z xs) (sym (one x r.0 b (inl refl) (inr r.1) i r.2)) r.1))

  -- where each weighs at most what is made of it, so do all
  pub sum_by-le-flat_map : (f : A → List B) (w : A → ℕ) (v : B → ℕ) (xs : List A) → ((x : A) → IsIn x xs → w x ≤ sum_by v (f x)) → sum_by w xs ≤ sum_by v (flat_map f xs)
  sum_by-le-flat_map f w v [] each = omega arith
  sum_by-le-flat_map f w v (x ∷ xs) each =
      omega (arith, sum_by-cons w x xs, sum_by-append v (f x) (flat_map f xs), each x (inl refl), sum_by-le-flat_map f w v xs (λ y i. each y (inr i)))

  -- what is made of an element is among what is made of all
  pub in_mapped : (f : A → B) (x : A) (xs : List A) → IsIn x xs → IsIn (f x) (map f xs)
  in_mapped f x [] h = absurd h
  in_mapped f x (y ∷ ys) h = elim h [ inl e ↦ inl (ap f e) | inr t ↦ inr (in_mapped f x ys t) ]

  pub in_flat_mapped : (f : A → List B) (x : A) (xs : List A) (y : B) → IsIn x xs → IsIn y (f x) → IsIn y (flat_map f xs)
  in_flat_mapped f x [] y h i = absurd h
  in_flat_mapped f x (z ∷ zs) y h i = elim h [
    | inl e ↦ in_left y (f z) (flat_map f zs) (subst (λ (v : A). IsIn y (f v)) e i)
    | inr t ↦ in_right y (f z) (flat_map f zs) (in_flat_mapped f x zs y t i)
  ]

  -- sums over lists that are made of another's elements, where what each makes weighs at most so much
  pub sum_by-map-le : (f : A → B) (w : B → ℕ) (h : A → ℕ) → ((x : A) → w (f x) ≤ h x) → (xs : List A) → sum_by w (map f xs) ≤ sum_by h xs
  sum_by-map-le f w h each [] = omega arith
  sum_by-map-le f w h each (x ∷ xs) = omega (arith, sum_by-cons w (f x) (map f xs), sum_by-cons h x xs, each x, sum_by-map-le f w h each xs)

  pub sum_by-flat_map-le : (f : A → List B) (w : B → ℕ) (h : A → ℕ) → ((x : A) → sum_by w (f x) ≤ h x) → (xs : List A) → sum_by w (flat_map f xs) ≤ sum_by h xs
  sum_by-flat_map-le f w h each [] = omega arith
  sum_by-flat_map-le f w h each (x ∷ xs) = omega (arith, sum_by-append w (f x) (flat_map f xs), sum_by-cons h x xs, each x, sum_by-flat_map-le f w h each xs)
