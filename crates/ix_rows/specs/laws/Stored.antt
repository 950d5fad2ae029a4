-- What statements make of the posting lists of an index.
use Rattle.std.specs.Prelude.{ℕ, ℤ, ◌≡◌, ◌==◌, ◌+◌, ◌≤◌, ◌<◌, Bool, true, false, cond, not, List, [], ◌∷◌, ◌++◌, filter, sum_by, Option, Some, None, is_some, refl}
use Rattle.std.specs.Option.{option_or}
use Rattle.std.proofs.Common.{sym, ap, subst, ◌∙◌, inl, inr, ◌⊎◌, arith, leb}
use Rattle.std.proofs.lemmas.Bool.{eqb-true, leb-true, leb-false}
use Rattle.ct_entry.specs.Lists.{IsIn}
use Rattle.ct_entry.specs.laws.Lists.{in_filter, apart_filter, sum_by-parts, sum_by-within}
use Rattle.ix_rows.specs.Posts.{posting}
use Rattle.ix_rows.specs.laws.Posts.{posting-append, posting-filter, posting_in}
use Rattle.ix_rows.specs.Stored.{IsStray, CostAtMost, ListsStand}

module _ {D : Type 0} (number : D → ℕ) (IsTerm : List ℕ → Type 0) where
  -- ---- (iii) what is put differently stands as before: only the lists matter
  pub lists_again : (cost : List ℕ × D → ℕ) (want : ℤ → List ℕ → ℕ → Option D) (row : ℕ → Option ℤ) (given : ℕ) (list list' : List ℕ → List D) (waste : ℕ)
      → ((term : List ℕ) → list' term ≡ list term) → ListsStand number IsTerm cost want row given list waste → ListsStand number IsTerm cost want row given list' waste
  lists_again cost want row given list list' waste same stand = subst (λ (l : List ℕ → List D). ListsStand number IsTerm cost want row given l waste) (λ i term. sym (same term) i) stand

  -- where each stray was one before, they cost no more
  pub no_more : (cost : List ℕ × D → ℕ) (row row' : ℕ → Option ℤ) (list list' : List ℕ → List D) (waste : ℕ)
      → ((s : List ℕ × D) → IsStray number IsTerm row' list' s → IsStray number IsTerm row list s) → CostAtMost number IsTerm cost row list waste → CostAtMost number IsTerm cost row' list' waste
  no_more cost row row' list list' waste was bound ss apart each = bound ss apart (λ s i. was s (each s i))

  -- where there is none, they cost nothing
  pub none_left : (cost : List ℕ × D → ℕ) (row : ℕ → Option ℤ) (list : List ℕ → List D) → ((s : List ℕ × D) → IsStray number IsTerm row list s → ⊥) → CostAtMost number IsTerm cost row list 0
  none_left cost row list none [] apart each = omega arith
  none_left cost row list none (s ∷ ss) apart each = absurd (none s (each s (inl refl)))

  -- ---- a row's text may change while no document is that row
  pub lists_see : (cost : List ℕ × D → ℕ) (want want' : ℤ → List ℕ → ℕ → Option D) (row : ℕ → Option ℤ) (given : ℕ) (list : List ℕ → List D) (waste : ℕ)
      → ((d : ℕ) (r : ℤ) → row d ≡ Some r → want' r ≡ want r) → ListsStand number IsTerm cost want row given list waste → ListsStand number IsTerm cost want' row given list waste
  lists_see cost want want' row given list waste same stand = record {
    exact = λ term d r tm is. stand.exact term d r tm is ∙ sym (ap (λ (f : List ℕ → ℕ → Option D). f term d) (same d r is));
    known = stand.known;
    bounded = stand.bounded;
  }

  -- ---- (i) new documents with new postings

  -- what is new: postings under documents above those that were given, which are rows now, with just what these rows have
  pub record AreNew (want : ℤ → List ℕ → ℕ → Option D) (row row' : ℕ → Option ℤ) (given given' : ℕ) (news : List ℕ → List D) : Type 0 where
    pub more : given ≤ given'
    pub old : (d : ℕ) → d ≤ given → row' d ≡ row d
    pub bounds : (term : List ℕ) (d : ℕ) (x : D) → IsTerm term → posting number d (news term) ≡ Some x → (given < d) × (d ≤ given')
    pub mapped : (term : List ℕ) (d : ℕ) (x : D) → IsTerm term → posting number d (news term) ≡ Some x → is_some (row' d) ≡ true
    pub exact : (term : List ℕ) (d : ℕ) (r : ℤ) → IsTerm term → given < d → row' d ≡ Some r → posting number d (news term) ≡ want r term d

  none_or : (o p : Option D) → o ≡ None → option_or o p ≡ p
  none_or None p is = refl
  none_or (Some x) p is = cc

  or_none : (o p : Option D) → p ≡ None → option_or o p ≡ o
  or_none None p is = is
  or_none (Some x) p is = refl

  -- none, where one would be wrong
  is_none : (o : Option D) → ((x : D) → o ≡ Some x → ⊥) → o ≡ None
  is_none None wrong = refl
  is_none (Some x) wrong = absurd (wrong x refl)

  not_some : (o : Option ℤ) → is_some o ≡ true → o ≡ None → ⊥
  not_some None h is = cc
  not_some (Some x) h is = cc

  either_number : (a b : ℕ) → (a ≤ b) ⊎ (b < a)
  either_number a b = go (leb a b) refl
    where
      go : (t : Bool) → leb a b ≡ t → (a ≤ b) ⊎ (b < a)
      go true h = inl (leb-true a b h)
      go false h = inr (leb-false a b h)

  pub lists_added : (cost : List ℕ × D → ℕ) (want : ℤ → List ℕ → ℕ → Option D) (row row' : ℕ → Option ℤ) (given given' : ℕ) (list news : List ℕ → List D) (waste : ℕ)
      → AreNew want row row' given given' news → ListsStand number IsTerm cost want row given list waste → ListsStand number IsTerm cost want row' given' (λ term. list term ++ news term) waste
  lists_added cost want row row' given given' list news waste new stand = record {
    exact = λ term d r tm is. posting-append number d (list term) (news term) ∙ exact term d r tm is (either_number d given);
    known = λ term d x tm is. bounds term d x tm (sym (posting-append number d (list term) (news term)) ∙ is) (either_number d given);
    bounded = no_more cost row row' list (λ term. list term ++ news term) waste (λ s stray. was s stray (either_number (number s.1) given)) stand.bounded;
  }
    where
      none_new : (term : List ℕ) (d : ℕ) → IsTerm term → d ≤ given → posting number d (news term) ≡ None
      none_new term d tm low = is_none (posting number d (news term)) (λ x is. let b = (new.bounds term d x tm is).0 in omega (arith, b, low))

      none_old : (term : List ℕ) (d : ℕ) → IsTerm term → given < d → posting number d (list term) ≡ None
      none_old term d tm high = is_none (posting number d (list term)) (λ x is. let b = (stand.known term d x tm is).1 in omega (arith, b, high))

      exact : (term : List ℕ) (d : ℕ) (r : ℤ) → IsTerm term → row' d ≡ Some r → (d ≤ given) ⊎ (given < d) → option_or (posting number d (list term)) (posting number d (news term)) ≡ want r term d
      exact term d r tm is (inl low) = or_none (posting number d (list term)) (posting number d (news term)) (none_new term d tm low) ∙ stand.exact term d r tm (sym (new.old d low) ∙ is)
      exact term d r tm is (inr high) = none_or (posting number d (list term)) (posting number d (news term)) (none_old term d tm high) ∙ new.exact term d r tm high is

      bounds : (term : List ℕ) (d : ℕ) (x : D) → IsTerm term → option_or (posting number d (list term)) (posting number d (news term)) ≡ Some x → (d ≤ given) ⊎ (given < d) → (1 ≤ d) × (d ≤ given')
      bounds term d x tm is (inl low) =
          let b = stand.known term d x tm (sym (or_none (posting number d (list term)) (posting number d (news term)) (none_new term d tm low)) ∙ is) in
          (b.0, omega (arith, b.1, new.more))
      bounds term d x tm is (inr high) =
          let b = new.bounds term d x tm (sym (none_or (posting number d (list term)) (posting number d (news term)) (none_old term d tm high)) ∙ is) in
          (omega (arith, b.0), b.1)

      was : (s : List ℕ × D) → IsStray number IsTerm row' (λ term. list term ++ news term) s → (number s.1 ≤ given) ⊎ (given < number s.1) → IsStray number IsTerm row list s
      was s stray (inl low) = record {
        term = stray.term;
        stored = sym (posting-append number (number s.1) (list s.0) (news s.0) ∙ or_none (posting number (number s.1) (list s.0)) (posting number (number s.1) (news s.0)) (none_new s.0 (number s.1) stray.term low)) ∙ stray.stored;
        unmapped = sym (new.old (number s.1) low) ∙ stray.unmapped;
      }
      was s stray (inr high) =
          let is = sym (posting-append number (number s.1) (list s.0) (news s.0) ∙ none_or (posting number (number s.1) (list s.0)) (posting number (number s.1) (news s.0)) (none_old s.0 (number s.1) stray.term high)) ∙ stray.stored in
          absurd (not_some (row' (number s.1)) (new.mapped s.0 (number s.1) s.1 stray.term is) stray.unmapped)

  -- ---- (ii) a document that is a row no more

  -- the rows of documents but that of one
  abbrev pub without : (ℕ → Option ℤ) → ℕ → ℕ → Option ℤ
  without row d e = cond (e == d) None (row e)

  pub lists_unmapped : (cost : List ℕ × D → ℕ) (want : ℤ → List ℕ → ℕ → Option D) (row : ℕ → Option ℤ) (given : ℕ) (list : List ℕ → List D) (waste : ℕ) (d : ℕ) (r : ℤ) (its : List (List ℕ × D))
      → row d ≡ Some r → ((term : List ℕ) (x : D) → IsTerm term → want r term d ≡ Some x → IsIn (term, x) its)
      → ListsStand number IsTerm cost want row given list waste → ListsStand number IsTerm cost want (without row d) given list (waste + sum_by cost its)
  lists_unmapped cost want row given list waste d r its is all stand = record {
    exact = λ term e s tm h. exact term e s tm (e == d) h;
    known = stand.known;
    bounded = λ ss apart each.
        let gone = sum_by-within cost (filter (λ s. number s.1 == d) ss) its (apart_filter (λ s. number s.1 == d) ss apart) (λ s i. let f = in_filter (λ (z : List ℕ × D). number z.1 == d) s ss i in one s f.1 (each s f.0)) in
        let rest = stand.bounded (filter (λ s. not (number s.1 == d)) ss) (apart_filter (λ s. not (number s.1 == d)) ss apart) (λ s i. let f = in_filter (λ (z : List ℕ × D). not (number z.1 == d)) s ss i in other s f.1 (each s f.0)) in
        let parts = sum_by-parts (λ (s : List ℕ × D). number s.1 == d) cost ss in
        omega (arith, gone, rest, parts);
  }
    where
      exact : (term : List ℕ) (e : ℕ) (s : ℤ) → IsTerm term → (b : Bool) → cond b None (row e) ≡ Some s → posting number e (list term) ≡ want s term e
      exact term e s tm true h = cc
      exact term e s tm false h = stand.exact term e s tm h

      -- a stray under this document is one of its postings
      one : (s : List ℕ × D) → (number s.1 == d) ≡ true → IsStray number IsTerm (without row d) list s → IsIn s its
      one s e stray =
          let same = eqb-true (number s.1) d e in
          all s.0 s.1 stray.term (sym (stand.exact s.0 d r stray.term is) ∙ ap (λ (n : ℕ). posting number n (list s.0)) (sym same) ∙ stray.stored)

      -- and under another was one before
      other : (s : List ℕ × D) → not (number s.1 == d) ≡ true → IsStray number IsTerm (without row d) list s → IsStray number IsTerm row list s
      other s e stray = record { term = stray.term; stored = stray.stored; unmapped = was (number s.1 == d) e stray.unmapped }
        where
          was : (b : Bool) → not b ≡ true → cond b None (row (number s.1)) ≡ None → row (number s.1) ≡ None
          was true e h = cc
          was false e h = h

  -- ---- postings that are dropped

  -- only such as are no rows', at the terms that are handled
  pub lists_thinned : (cost : List ℕ × D → ℕ) (want : ℤ → List ℕ → ℕ → Option D) (row : ℕ → Option ℤ) (given : ℕ) (list : List ℕ → List D) (waste : ℕ) (keep : List ℕ → ℕ → Bool)
      → ((term : List ℕ) (d : ℕ) (r : ℤ) → row d ≡ Some r → keep term d ≡ true) → ListsStand number IsTerm cost want row given list waste → ListsStand number IsTerm cost want row given (λ term. filter (λ x. keep term (number x)) (list term)) waste
  lists_thinned cost want row given list waste keep stays stand = record {
    exact = λ term d r tm is. posting-filter number (keep term) d (list term) ∙ ap (λ (b : Bool). cond b (posting number d (list term)) None) (stays term d r is) ∙ stand.exact term d r tm is;
    known = λ term d x tm is. stand.known term d x tm (was (keep term d) (posting number d (list term)) x (sym (posting-filter number (keep term) d (list term)) ∙ is));
    bounded = no_more cost row row list (λ term. filter (λ x. keep term (number x)) (list term)) waste
        (λ s stray. record { term = stray.term; stored = was (keep s.0 (number s.1)) (posting number (number s.1) (list s.0)) s.1 (sym (posting-filter number (keep s.0) (number s.1) (list s.0)) ∙ stray.stored); unmapped = stray.unmapped })
        stand.bounded;
  }
    where
      was : (b : Bool) (o : Option D) (x : D) → cond b o None ≡ Some x → o ≡ Some x
      was true o x is = is
      was false o x is = cc

  -- where each stored document is a row, nothing is wasted
  pub lists_clean : (cost : List ℕ × D → ℕ) (want : ℤ → List ℕ → ℕ → Option D) (row : ℕ → Option ℤ) (given : ℕ) (list : List ℕ → List D) (waste : ℕ)
      → ((term : List ℕ) (x : D) → IsTerm term → IsIn x (list term) → is_some (row (number x)) ≡ true) → ListsStand number IsTerm cost want row given list waste → ListsStand number IsTerm cost want row given list 0
  lists_clean cost want row given list waste clean stand = record {
    exact = stand.exact;
    known = stand.known;
    bounded = none_left cost row list (λ s stray. not_some (row (number s.1)) (clean s.0 s.1 stray.term (posting_in number (number s.1) (list s.0) s.1 stray.stored)) stray.unmapped);
  }
