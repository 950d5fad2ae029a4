-- Posting lists that are joined or thinned, and lists whose numbers rise.
use Rattle.std.specs.Prelude.{ℕ, ◌≡◌, ◌==◌, ◌<◌, Bool, true, false, cond, List, [], ◌∷◌, ◌++◌, filter, Option, Some, None, refl}
use Rattle.std.specs.Option.{option_or}
use Rattle.std.proofs.Common.{sym, ap, subst, ◌∙◌, inl, inr, arith, append_assoc}
use Rattle.std.proofs.lemmas.Bool.{eqb-true, eq-eqb, ne_eqb}
use Rattle.ct_entry.specs.Lists.{IsIn, AreApart}
use Rattle.ix_posting.specs.Lists.{posting_list}
use Rattle.ix_rows.specs.Posts.{posting, Rises}

module _ {D : Type 0} where
  pub posting_list-append : (xs ys : List (List D)) → posting_list (xs ++ ys) ≡ posting_list xs ++ posting_list ys
  posting_list-append [] ys = refl
  posting_list-append (x ∷ xs) ys = ap (λ (l : List D). x ++ l) (posting_list-append xs ys) ∙ sym (append_assoc x (posting_list xs) (posting_list ys))

  pub in_posting_list : (x : D) (row : List D) (rows : List (List D)) → IsIn row rows → IsIn x row → IsIn x (posting_list rows)
  in_posting_list x row [] h i = absurd h
  in_posting_list x row (y ∷ ys) h i = elim h [
    | inl e ↦ left x y (posting_list ys) (subst (IsIn x) e i)
    | inr t ↦ right x y (posting_list ys) (in_posting_list x row ys t i)
  ]
    where
      left : (x : D) (xs ys : List D) → IsIn x xs → IsIn x (xs ++ ys)
      left x [] ys h = absurd h
      left x (y ∷ xs) ys h = elim h [ inl e ↦ inl e | inr t ↦ inr (left x xs ys t) ]

      right : (x : D) (xs ys : List D) → IsIn x ys → IsIn x (xs ++ ys)
      right x [] ys h = h
      right x (y ∷ xs) ys h = inr (right x xs ys h)

module _ {D : Type 0} (number : D → ℕ) where
  pub posting-append : (d : ℕ) (xs ys : List D) → posting number d (xs ++ ys) ≡ option_or (posting number d xs) (posting number d ys)
  posting-append d [] ys = refl
  posting-append d (x ∷ xs) ys = go (d == number x) (posting-append d xs ys)
    where
      go : (b : Bool) → posting number d (xs ++ ys) ≡ option_or (posting number d xs) (posting number d ys)
          → cond b (Some x) (posting number d (xs ++ ys)) ≡ option_or (cond b (Some x) (posting number d xs)) (posting number d ys)
      go true rest = refl
      go false rest = rest

  -- of the documents that pass a test
  pub posting-filter : (p : ℕ → Bool) (d : ℕ) (xs : List D) → posting number d (filter (λ x. p (number x)) xs) ≡ cond (p d) (posting number d xs) None
  posting-filter p d [] = none (p d)
    where
      none : (b : Bool) → ◌≡◌ {A = Option D} None (cond b None None)
      none true = refl
      none false = refl
  posting-filter p d (x ∷ xs) = go (p (number x)) (d == number x) refl refl (posting-filter p d xs)
    where
      go : (b c : Bool) → p (number x) ≡ b → (d == number x) ≡ c → posting number d (filter (λ x. p (number x)) xs) ≡ cond (p d) (posting number d xs) None
          → posting number d (cond b (x ∷ filter (λ x. p (number x)) xs) (filter (λ x. p (number x)) xs)) ≡ cond (p d) (cond c (Some x) (posting number d xs)) None
      go true true h e rest = ap (λ (t : Bool). cond t (Some x) (posting number d (filter (λ x. p (number x)) xs))) e ∙ sym (ap (λ (t : Bool). cond t (Some x) None) (ap p (eqb-true d (number x) e) ∙ h))
      go true false h e rest = ap (λ (t : Bool). cond t (Some x) (posting number d (filter (λ x. p (number x)) xs))) e ∙ rest
      go false true h e rest = let no_d = ap p (eqb-true d (number x) e) ∙ h in rest ∙ ap (λ (t : Bool). cond t (posting number d xs) None) no_d ∙ sym (ap (λ (t : Bool). cond t (Some x) None) no_d)
      go false false h e rest = rest

  -- the number of what is found
  pub number_of : (d : ℕ) (xs : List D) (x : D) → posting number d xs ≡ Some x → d ≡ number x
  number_of d [] x is = cc
  number_of d (y ∷ ys) x is = go (d == number y) refl is (number_of d ys x)
    where
      go : (b : Bool) → (d == number y) ≡ b → cond b (Some y) (posting number d ys) ≡ Some x → (posting number d ys ≡ Some x → d ≡ number x) → d ≡ number x
      go true e is rest = let same : y ≡ x = cc in eqb-true d (number y) e ∙ ap number same
      go false e is rest = rest is

  pub posting_in : (d : ℕ) (xs : List D) (x : D) → posting number d xs ≡ Some x → IsIn x xs
  posting_in d [] x is = cc
  posting_in d (y ∷ ys) x is = go (d == number y) is (posting_in d ys x)
    where
      go : (b : Bool) → cond b (Some y) (posting number d ys) ≡ Some x → (posting number d ys ≡ Some x → IsIn x ys) → IsIn x (y ∷ ys)
      go true is rest = let same : y ≡ x = cc in inl (sym same)
      go false is rest = inr (rest is)

  -- ---- lists whose numbers rise

  pub above : (before : ℕ) (x : D) (xs : List D) → Rises number before xs → IsIn x xs → before < number x
  above before x [] r h = absurd h
  above before x (y ∷ ys) r h = elim h [
    | inl e ↦ subst (λ (z : D). before < number z) (sym e) r.0
    | inr t ↦ let up = above (number y) x ys r.2 t in omega (arith, r.0, up)
  ]

  -- each document of such a list is found by its number
  pub in_posting : (before : ℕ) (x : D) (xs : List D) → Rises number before xs → IsIn x xs → posting number (number x) xs ≡ Some x
  in_posting before x [] r h = absurd h
  in_posting before x (y ∷ ys) r h = elim h [
    | inl e ↦ ap (λ (b : Bool). cond b (Some y) (posting number (number x) ys)) (eq-eqb (number x) (number y) (ap number e)) ∙ ap (λ (z : D). Some z) (sym e)
    | inr t ↦
        let up = above (number y) x ys r.2 t in
        ap (λ (b : Bool). cond b (Some y) (posting number (number x) ys)) (ne_eqb (number x) (number y) (λ same. omega (arith, same, up))) ∙ in_posting (number y) x ys r.2 t
  ]

  -- and stands once
  pub rises_apart : (before : ℕ) (xs : List D) → Rises number before xs → AreApart xs
  rises_apart before [] r = tt
  rises_apart before (x ∷ xs) r = ((λ h. let up = above (number x) x xs r.2 h in omega (arith, up)), rises_apart (number x) xs r.2)

  -- a document stands in one row alone
  pub one_row : (rows : List (List D)) (before : ℕ) (x : D) (row row' : List D) → Rises number before (posting_list rows) → IsIn row rows → IsIn row' rows → IsIn x row → IsIn x row' → row ≡ row'
  one_row [] before x row row' r h h' i i' = absurd h
  one_row (y ∷ ys) before x row row' r h h' i i' = elim h [
    | inl e ↦ elim h' [
      | inl e' ↦ e ∙ sym e'
      | inr t' ↦ absurd (apart before y r (subst (IsIn x) e i) (in_posting_list x row' ys t' i'))
    ]
    | inr t ↦ elim h' [
      | inl e' ↦ absurd (apart before y r (subst (IsIn x) e' i') (in_posting_list x row ys t i))
      | inr t' ↦ one_row ys (behind before y r).0 x row row' (behind before y r).1 t t' i i'
    ]
  ]
    where
      -- what is behind a row rises from some number
      behind : (b : ℕ) (zs : List D) → Rises number b (zs ++ posting_list ys) → (c : ℕ) × Rises number c (posting_list ys)
      behind b [] r = (b, r)
      behind b (z ∷ zs) r = behind (number z) zs r.2

      apart : (b : ℕ) (zs : List D) → Rises number b (zs ++ posting_list ys) → IsIn x zs → IsIn x (posting_list ys) → ⊥
      apart b [] r h j = h
      apart b (z ∷ zs) r h j = elim h [
        | inl e ↦
            let up = higher (number z) zs r.2 j in
            let same : number x ≡ number z = ap number e in
            omega (arith, up, same)
        | inr t ↦ apart (number z) zs r.2 t j
      ]
        where
          higher : (b : ℕ) (zs : List D) → Rises number b (zs ++ posting_list ys) → IsIn x (posting_list ys) → b < number x
          higher b [] r j = above b x (posting_list ys) r j
          higher b (w ∷ ws) r j = let up = higher (number w) ws r.2 j in omega (arith, r.0, up)
