-- The posting lists of the rows that a synchronisation takes, and that they are what these rows have.
use Rattle.std.specs.Prelude.{ℕ, ℤ, ◌≡◌, ◌==◌, ◌+◌, ◌≤◌, ◌<◌, ◌^◌, Bool, true, false, cond, List, [], ◌∷◌, length, Option, Some, None, is_some, refl}
use Rattle.std.specs.List.{filter_map, cons_option}
use Rattle.std.proofs.Common.{sym, ap, ◌∙◌, arith}
use Rattle.std.proofs.lemmas.Bool.{eqb-true, eq-eqb, ne_eqb}
use Rattle.ct_entry.specs.Each.{numbered, with_rows}
use Rattle.ix_rows.specs.Posts.{posting, Rises}
use Rattle.ix_rows.specs.laws.Stored.{AreNew}

module _ {D : Type 0} (number : D → ℕ) (IsTerm : List ℕ → Type 0) (want : ℤ → List ℕ → ℕ → Option D) (numbered_so : (r : ℤ) (term : List ℕ) (d : ℕ) (x : D) → want r term d ≡ Some x → number x ≡ d) where
  -- what rows have under a term, each as its document
  abbrev pub inverted : List ℕ → List (ℕ × ℤ) → List D
  inverted term ps = filter_map (λ p. want p.1 term p.0) ps

  inverted_rises : (term : List ℕ) (rows : List ℤ) (given before : ℕ) → before ≤ given → given + length rows < 2 ^ 32 → Rises number before (inverted term (numbered (given + 1) rows))
  inverted_rises term [] given before low room = tt
  inverted_rises term (r ∷ rs) given before low room = go (want r term (given + 1)) refl (λ b h. inverted_rises term rs (given + 1) b h (omega (arith, room)))
    where
      go : (o : Option D) → want r term (given + 1) ≡ o → ((b : ℕ) → b ≤ given + 1 → Rises number b (inverted term (numbered (given + 1 + 1) rs)))
          → Rises number before (cons_option o (inverted term (numbered (given + 1 + 1) rs)))
      go None is rest = rest before (omega (arith, low))
      go (Some x) is rest = let n = numbered_so r term (given + 1) x is in (omega (arith, n, low), omega (arith, n, room), rest (number x) (omega (arith, n)))

  -- none of them is a document that was given
  inverted_above : (term : List ℕ) (rows : List ℤ) (given d : ℕ) (x : D) → posting number d (inverted term (numbered (given + 1) rows)) ≡ Some x → (given < d) × (d ≤ given + length rows)
  inverted_above term [] given d x is = cc
  inverted_above term (r ∷ rs) given d x is = go (want r term (given + 1)) refl is (λ h. inverted_above term rs (given + 1) d x h)
    where
      later : (given + 1 < d) × (d ≤ given + 1 + length rs) → (given < d) × (d ≤ given + length (r ∷ rs))
      later b = (omega (arith, b.0), omega (arith, b.1))

      go : (o : Option D) → want r term (given + 1) ≡ o → posting number d (cons_option o (inverted term (numbered (given + 1 + 1) rs))) ≡ Some x
          → (posting number d (inverted term (numbered (given + 1 + 1) rs)) ≡ Some x → (given + 1 < d) × (d ≤ given + 1 + length rs)) → (given < d) × (d ≤ given + length (r ∷ rs))
      go None w is rest = later (rest is)
      go (Some y) w is rest = at (d == number y) refl is
        where
          at : (b : Bool) → (d == number y) ≡ b → cond b (Some y) (posting number d (inverted term (numbered (given + 1 + 1) rs))) ≡ Some x → (given < d) × (d ≤ given + length (r ∷ rs))
          at true e is = let one = eqb-true d (number y) e in let n = numbered_so r term (given + 1) y w in (omega (arith, one, n), omega (arith, one, n))
          at false e is = later (rest is)

  -- and under each of them is what its row has
  inverted_exact : (term : List ℕ) (rows : List ℤ) (row : ℕ → Option ℤ) (given d : ℕ) (r : ℤ) → given < d → row d ≡ None
      → with_rows given rows row d ≡ Some r → posting number d (inverted term (numbered (given + 1) rows)) ≡ want r term d
  inverted_exact term [] row given d r high free is = let wrong : None ≡ Some r = sym free ∙ is in cc
  inverted_exact term (s ∷ rs) row given d r high free is = go (d == given + 1) refl is (λ h k. inverted_exact term rs row (given + 1) d r h free k)
    where
      none : (o : Option D) → ((x : D) → o ≡ Some x → ⊥) → o ≡ None
      none None wrong = refl
      none (Some x) wrong = absurd (wrong x refl)

      none_later : d ≡ given + 1 → posting number d (inverted term (numbered (given + 1 + 1) rs)) ≡ None
      none_later e = none _ (λ x is. let b = (inverted_above term rs (given + 1) d x is).0 in omega (arith, b, e))

      here : (o : Option D) → want s term (given + 1) ≡ o → d ≡ given + 1 → posting number d (cons_option o (inverted term (numbered (given + 1 + 1) rs))) ≡ o
      here None w e = none_later e
      here (Some y) w e = let n = numbered_so s term (given + 1) y w in ap (λ (b : Bool). cond b (Some y) (posting number d (inverted term (numbered (given + 1 + 1) rs)))) (eq-eqb d (number y) (e ∙ sym n))

      there : (o : Option D) → want s term (given + 1) ≡ o → (d ≡ given + 1 → ⊥)
          → posting number d (cons_option o (inverted term (numbered (given + 1 + 1) rs))) ≡ posting number d (inverted term (numbered (given + 1 + 1) rs))
      there None w e = refl
      there (Some y) w e = let n = numbered_so s term (given + 1) y w in ap (λ (b : Bool). cond b (Some y) (posting number d (inverted term (numbered (given + 1 + 1) rs)))) (ne_eqb d (number y) (λ same. e (same ∙ n)))

      go : (b : Bool) → (d == given + 1) ≡ b → cond b (Some s) (with_rows (given + 1) rs row d) ≡ Some r
          → (given + 1 < d → with_rows (given + 1) rs row d ≡ Some r → posting number d (inverted term (numbered (given + 1 + 1) rs)) ≡ want r term d)
          → posting number d (inverted term (numbered (given + 1) (s ∷ rs))) ≡ want r term d
      go true e is rest =
          let one = eqb-true d (given + 1) e in
          let same : s ≡ r = cc in
          here (want s term (given + 1)) refl one ∙ ap (λ (z : ℤ). want z term (given + 1)) same ∙ ap (want r term) (sym one)
      go false e is rest =
          let apart : d ≡ given + 1 → ⊥ = λ h. let wrong : true ≡ false = sym (eq-eqb d (given + 1) h) ∙ e in cc in
          there (want s term (given + 1)) refl apart ∙ rest (omega (arith, high, apart)) is

  -- the documents that were given stay
  with_rows_old : (rows : List ℤ) (row : ℕ → Option ℤ) (given d : ℕ) → d ≤ given → with_rows given rows row d ≡ row d
  with_rows_old [] row given d low = refl
  with_rows_old (r ∷ rs) row given d low = ap (λ (b : Bool). cond b (Some r) (with_rows (given + 1) rs row d)) (ne_eqb d (given + 1) (λ e. omega (arith, e, low))) ∙ with_rows_old rs row (given + 1) d (omega (arith, low))

  with_rows_new : (rows : List ℤ) (row : ℕ → Option ℤ) (given d : ℕ) → given < d → d ≤ given + length rows → is_some (with_rows given rows row d) ≡ true
  with_rows_new [] row given d high low = absurd (omega (arith, high, low))
  with_rows_new (r ∷ rs) row given d high low = go (d == given + 1) refl (λ h. with_rows_new rs row (given + 1) d h (omega (arith, low)))
    where
      go : (b : Bool) → (d == given + 1) ≡ b → (given + 1 < d → is_some (with_rows (given + 1) rs row d) ≡ true) → is_some (cond b (Some r) (with_rows (given + 1) rs row d)) ≡ true
      go true e rest = refl
      go false e rest = rest (let apart : d ≡ given + 1 → ⊥ = λ h. let wrong : true ≡ false = sym (eq-eqb d (given + 1) h) ∙ e in cc in omega (arith, high, apart))

  -- A SYNCHRONISATION'S POSTINGS ARE NEW
  pub inverted_new : (row : ℕ → Option ℤ) (given : ℕ) (rows : List ℤ) (news : List ℕ → List D) → ((d : ℕ) → given < d → row d ≡ None)
      → ((term : List ℕ) → IsTerm term → news term ≡ inverted term (numbered (given + 1) rows))
      → AreNew number IsTerm want row (with_rows given rows row) given (given + length rows) news
  inverted_new row given rows news free same = record {
    more = omega arith;
    old = λ d low. with_rows_old rows row given d low;
    bounds = λ term d x is h. inverted_above term rows given d x (sym (at term d is) ∙ h);
    mapped = λ term d x is h. let b = inverted_above term rows given d x (sym (at term d is) ∙ h) in with_rows_new rows row given d b.0 b.1;
    exact = λ term d r is high h. at term d is ∙ inverted_exact term rows row given d r high (free d high) h;
  }
    where
      at : (term : List ℕ) (d : ℕ) → IsTerm term → posting number d (news term) ≡ posting number d (inverted term (numbered (given + 1) rows))
      at term d is = ap (posting number d) (same term is)

  pub inverted_rise : (term : List ℕ) (rows : List ℤ) (given : ℕ) → given + length rows < 2 ^ 32 → Rises number given (inverted term (numbered (given + 1) rows))
  inverted_rise term rows given room = inverted_rises term rows given given (omega arith) room
