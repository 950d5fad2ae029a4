-- What a synchronisation puts: for each term the split of the new documents alone.
use Rattle.std.specs.Prelude.{ℕ, ℤ, ◌≡◌, ◌+◌, ◌<◌, ◌^◌, Bool, true, false, cond, ◌||◌, List, [], ◌∷◌, ◌++◌, length, map, Option, Some, None, refl}
use Rattle.std.specs.List.{filter_map, cons_option}
use Rattle.std.proofs.Common.{sym, ap, subst, ◌∙◌, inl, inr, arith}
use Rattle.ct_entry.specs.declared.kinds.Kind.{Kind}
use Rattle.ct_entry.specs.Keys.{same_list}
use Rattle.ct_entry.specs.Each.{is_any_of, numbered}
use Rattle.ct_entry.specs.laws.Keys.{list_from_same}
use Rattle.ct_entry.specs.Lists.{IsIn, AreApart, EachIs}
use Rattle.ix_posting.specs.Lists.{posting_list}
use Rattle.ix_rows.specs.Posts.{Rises}
use Rattle.ix_rows.specs.laws.Spelling.{added, EachHasFirst, posting_list-greedy}
use Rattle.ix_rows.specs.Spelling.{greedy}
use Rattle.ix_rows.specs.laws.Inverted.{inverted_rise}
use Rattle.ix_rows.specs.laws.Tidies.{RowLaws, greedy_rows, firsts_of}

-- what a synchronisation puts: rows whose postings are those of the rows that it takes, as their documents
pub record AreRowsOf {D : Type 0} (number : D → ℕ) (bytes_of : List D → List ℕ) (IsRow : List D → Type 0) (IsTerm : List ℕ → Type 0) (kind : Kind) (i : List ℕ) (want : ℤ → List ℕ → ℕ → Option D) (given : ℕ) (rows : List ℤ) (es : List (List ℕ × List (List D))) : Type 0 where
  pub firsts : EachHasFirst number es
  pub each : (term : List ℕ) → IsTerm term → EachIs IsRow (added number bytes_of kind i es term)
  pub same : (term : List ℕ) → IsTerm term → posting_list (added number bytes_of kind i es term) ≡ filter_map (λ (p : ℕ × ℤ). want p.1 term p.0) (numbered (given + 1) rows)

module _ {D : Type 0} (number : D → ℕ) (bytes_of : List D → List ℕ) (IsRow : List D → Type 0) (IsGood : D → Type 0) (laws : RowLaws number IsRow IsGood) (IsTerm : List ℕ → Type 0) (kind : Kind) (i : List ℕ)
    (want : ℤ → List ℕ → ℕ → Option D) (numbered_so : (r : ℤ) (term : List ℕ) (d : ℕ) (x : D) → want r term d ≡ Some x → number x ≡ d) where
  abbrev news_of : ℕ → List ℤ → List ℕ → List D
  news_of given rows t = filter_map (λ (p : ℕ × ℤ). want p.1 t p.0) (numbered (given + 1) rows)

  -- each term with its rows
  abbrev pub put_of : ℕ → List ℤ → List (List ℕ) → List (List ℕ × List (List D))
  put_of given rows ts = map (λ t. (t, greedy number bytes_of (news_of given rows t))) ts

  none_added : (given : ℕ) (rows : List ℤ) (ts : List (List ℕ)) (t : List ℕ) → is_any_of t ts ≡ false → added number bytes_of kind i (put_of given rows ts) t ≡ []
  none_added given rows [] t h = refl
  none_added given rows (u ∷ ts) t h = go (same_list t u) refl h (none_added given rows ts t)
    where
      go : (b : Bool) → same_list t u ≡ b → (b || is_any_of t ts) ≡ false
          → (is_any_of t ts ≡ false → added number bytes_of kind i (put_of given rows ts) t ≡ [])
          → added number bytes_of kind i (put_of given rows (u ∷ ts)) t ≡ []
      go true e h rest = cc
      go false e h rest = ap (λ (b : Bool). cond b (greedy number bytes_of (news_of given rows u) ++ added number bytes_of kind i (put_of given rows ts) t) (added number bytes_of kind i (put_of given rows ts) t)) e ∙ rest h

  not_among : (t : List ℕ) (ts : List (List ℕ)) → (IsIn t ts → ⊥) → is_any_of t ts ≡ false
  not_among t [] h = refl
  not_among t (u ∷ ts) h = go (same_list t u) refl (not_among t ts (λ k. h (inr k)))
    where
      go : (b : Bool) → same_list t u ≡ b → is_any_of t ts ≡ false → (same_list t u || is_any_of t ts) ≡ false
      go true e rest = absurd (h (inl (list_from_same t u e)))
      go false e rest = ap (λ (b : Bool). b || is_any_of t ts) e ∙ rest

  nil : (xs : List (List D)) → xs ++ [] ≡ xs
  nil [] = refl
  nil (x ∷ xs) = ap (λ (l : List (List D)). x ∷ l) (nil xs)

  added_of : (given : ℕ) (rows : List ℤ) (ts : List (List ℕ)) (t : List ℕ) → AreApart ts
      → added number bytes_of kind i (put_of given rows ts) t ≡ cond (is_any_of t ts) (greedy number bytes_of (news_of given rows t)) []
  added_of given rows [] t apart = refl
  added_of given rows (u ∷ ts) t apart = go (same_list t u) refl (added_of given rows ts t apart.1)
    where
      go : (b : Bool) → same_list t u ≡ b → added number bytes_of kind i (put_of given rows ts) t ≡ cond (is_any_of t ts) (greedy number bytes_of (news_of given rows t)) []
          → added number bytes_of kind i (put_of given rows (u ∷ ts)) t ≡ cond (same_list t u || is_any_of t ts) (greedy number bytes_of (news_of given rows t)) []
      go true e rest =
          let one = list_from_same t u e in
          let gone = none_added given rows ts t (not_among t ts (λ h. apart.0 (subst (λ (v : List ℕ). IsIn v ts) one h))) in
          ap (λ (b : Bool). cond b (greedy number bytes_of (news_of given rows u) ++ added number bytes_of kind i (put_of given rows ts) t) (added number bytes_of kind i (put_of given rows ts) t)) e
          ∙ ap (λ (l : List (List D)). greedy number bytes_of (news_of given rows u) ++ l) gone ∙ nil (greedy number bytes_of (news_of given rows u))
          ∙ ap (λ (v : List ℕ). greedy number bytes_of (news_of given rows v)) (sym one)
          ∙ sym (ap (λ (b : Bool). cond (b || is_any_of t ts) (greedy number bytes_of (news_of given rows t)) []) e)
      go false e rest =
          ap (λ (b : Bool). cond b (greedy number bytes_of (news_of given rows u) ++ added number bytes_of kind i (put_of given rows ts) t) (added number bytes_of kind i (put_of given rows ts) t)) e ∙ rest
          ∙ sym (ap (λ (b : Bool). cond (b || is_any_of t ts) (greedy number bytes_of (news_of given rows t)) []) e)

  in_news : (given : ℕ) (rows : List ℤ) (t : List ℕ) (x : D) → ((r : ℤ) (d : ℕ) (y : D) → want r t d ≡ Some y → IsGood y) → IsIn x (news_of given rows t) → IsGood x
  in_news given [] t x good h = absurd h
  in_news given (r ∷ rows) t x good h = go (want r t (given + 1)) refl h (in_news (given + 1) rows t x good)
    where
      go : (o : Option D) → want r t (given + 1) ≡ o → IsIn x (cons_option o (news_of (given + 1) rows t)) → (IsIn x (news_of (given + 1) rows t) → IsGood x) → IsGood x
      go None is h rest = rest h
      go (Some y) is h rest = elim h [ inl e ↦ subst IsGood (sym e) (good r (given + 1) y is) | inr k ↦ rest k ]

  -- THE SPLIT OF WHAT IS NEW may be put: where all terms are listed that some row has
  pub put_rows : (given : ℕ) (rows : List ℤ) (ts : List (List ℕ)) → AreApart ts → given + length rows < 2 ^ 32 → ((t : List ℕ) (r : ℤ) (d : ℕ) (y : D) → want r t d ≡ Some y → IsGood y)
      → ((t : List ℕ) → IsTerm t → is_any_of t ts ≡ false → news_of given rows t ≡ []) → AreRowsOf number bytes_of IsRow IsTerm kind i want given rows (put_of given rows ts)
  put_rows given rows ts apart room good others = record {
    firsts = firsts ts;
    each = λ t is. subst (EachIs IsRow) (sym (added_of given rows ts t apart)) (at (is_any_of t ts) t);
    same = λ t is. ap posting_list (added_of given rows ts t apart) ∙ same t is (is_any_of t ts) refl;
  }
    where
      split : (t : List ℕ) → EachIs IsRow (greedy number bytes_of (news_of given rows t))
      split t = greedy_rows number bytes_of IsRow IsGood laws (news_of given rows t) (lower (news_of given rows t) (inverted_rise number IsTerm want numbered_so t rows given room)) (λ x h. in_news given rows t x (good t) h)
        where
          lower : (xs : List D) → Rises number given xs → Rises number 0 xs
          lower [] r = tt
          lower (x ∷ xs) r = (omega (arith, r.0), r.1, r.2)

      firsts : (us : List (List ℕ)) → EachHasFirst number (put_of given rows us)
      firsts [] = tt
      firsts (u ∷ us) = (firsts_of number bytes_of IsRow IsGood laws (greedy number bytes_of (news_of given rows u)) (split u), firsts us)

      at : (b : Bool) (t : List ℕ) → EachIs IsRow (cond b (greedy number bytes_of (news_of given rows t)) [])
      at true t = split t
      at false t = tt

      same : (t : List ℕ) → IsTerm t → (b : Bool) → is_any_of t ts ≡ b → posting_list (cond b (greedy number bytes_of (news_of given rows t)) []) ≡ news_of given rows t
      same t is true h = posting_list-greedy number bytes_of (news_of given rows t)
      same t is false h = sym (others t is h)
