-- The greedy split is the only one.
use Rattle.std.specs.Prelude.{ℕ, ◌≡◌, ◌≤◌, ◌<◌, nat_le, Bool, true, false, List, [], ◌∷◌, ◌++◌, length, refl}
use Rattle.std.specs.Bool.{if◌then◌else◌}
use Rattle.std.proofs.Common.{sym, ap, subst, ◌∙◌, inl, inr, arith, append_assoc, append-nil}
use Rattle.std.proofs.lemmas.Bool.{leb-true, leb-false, le-leb, lt-leb}
use Rattle.std.proofs.lemmas.List.{length-append}
use Rattle.ct_entry.specs.Lists.{IsIn, EachIs}
use Rattle.ct_entry.specs.laws.Lists.{in_left, in_right}
use Rattle.ix_posting.specs.Lists.{posting_list}
use Rattle.ix_rows.specs.Spelling.{row_bytes_limit, greedy_from, greedy}
use Rattle.ix_rows.specs.Splits.{IsWithinLimit, AreFull, IsSplit}
use Rattle.ix_rows.specs.laws.Spelling.{posting_list-greedy}

module _ {D : Type 0} (number : D → ℕ) (bytes_of : List D → List ℕ) where
  abbrev limit : ℕ
  limit = row_bytes_limit

  abbrev Within : List D → Type 0
  Within = IsWithinLimit number bytes_of

  abbrev Full : List (List D) → Type 0
  Full = AreFull number bytes_of

  abbrev split_from : List D → List D → List (List D)
  split_from = greedy_from number bytes_of

  -- ---- the greedy split is one

  -- the first row of what is split from a row has this as its first part, so it begins with a document
  fits_from : (row xs : List D) → Within row → EachIs Within (split_from row xs)
  fits_from row [] is = (is, tt)
  fits_from row (x ∷ xs) is = go (nat_le (length (bytes_of (row ++ x ∷ []))) limit) refl
      (λ fits. fits_from (row ++ x ∷ []) xs (record { some = (let long = length-append row (x ∷ []) in omega (arith, long)); short = inl (leb-true _ _ fits) }))
      (fits_from (x ∷ []) xs (record { some = omega arith; short = inr refl }))
    where
      go : (b : Bool) → nat_le (length (bytes_of (row ++ x ∷ []))) limit ≡ b
          → (nat_le (length (bytes_of (row ++ x ∷ []))) limit ≡ true → EachIs Within (split_from (row ++ x ∷ []) xs))
          → EachIs Within (split_from (x ∷ []) xs)
          → EachIs Within (if b then split_from (row ++ x ∷ []) xs else row ∷ split_from (x ∷ []) xs)
      go true e more here = more e
      go false e more here = (is, here)

  -- what is split from a row begins with that row's documents
  begins_with : (x : D) (row xs : List D) → (first : List D) × (rest : List (List D)) × (split_from (x ∷ row) xs ≡ (x ∷ first) ∷ rest)
  begins_with x row [] = (row, [], refl)
  begins_with x row (y ∷ ys) = go (nat_le (length (bytes_of (x ∷ row ++ y ∷ []))) limit) (begins_with x (row ++ y ∷ []) ys)
    where
      go : (b : Bool) → (first : List D) × (rest : List (List D)) × (split_from (x ∷ row ++ y ∷ []) ys ≡ (x ∷ first) ∷ rest)
          → (first : List D) × (rest : List (List D)) × ((if b then split_from (x ∷ row ++ y ∷ []) ys else (x ∷ row) ∷ split_from (y ∷ []) ys) ≡ (x ∷ first) ∷ rest)
      go true more = more
      go false more = (row, split_from (y ∷ []) ys, refl)

  full_behind : (row : List D) (x : D) (xs : List D) → limit < length (bytes_of (row ++ x ∷ [])) → Full (split_from (x ∷ []) xs) → Full (row ∷ split_from (x ∷ []) xs)
  full_behind row x xs over rest = let b = begins_with x [] xs in subst (λ (rows : List (List D)). Full (row ∷ rows)) (sym b.2) (over, subst Full b.2 rest)

  full_from : (row xs : List D) → Full (split_from row xs)
  full_from row [] = tt
  full_from row (x ∷ xs) = go (nat_le (length (bytes_of (row ++ x ∷ []))) limit) refl (full_from (row ++ x ∷ []) xs) (full_from (x ∷ []) xs)
    where
      go : (b : Bool) → nat_le (length (bytes_of (row ++ x ∷ []))) limit ≡ b → Full (split_from (row ++ x ∷ []) xs) → Full (split_from (x ∷ []) xs)
          → Full (if b then split_from (row ++ x ∷ []) xs else row ∷ split_from (x ∷ []) xs)
      go true e more here = more
      go false e more here = full_behind row x xs (leb-false _ _ e) here

  pub greedy_is_split : (xs : List D) → IsSplit number bytes_of xs (greedy number bytes_of xs)
  greedy_is_split [] = record { whole = refl; within = tt; full = tt }
  greedy_is_split (x ∷ xs) = record {
    whole = posting_list-greedy number bytes_of (x ∷ xs);
    within = fits_from (x ∷ []) xs (record { some = omega arith; short = inr refl });
    full = full_from (x ∷ []) xs;
  }

  -- ---- and there is no other, where a row of more documents has no fewer bytes

  module _ (grows : (row : List D) (x : D) → length (bytes_of row) ≤ length (bytes_of (row ++ x ∷ []))) where
    grows_on : (row xs : List D) → length (bytes_of row) ≤ length (bytes_of (row ++ xs))
    grows_on row [] = let same = ap (λ (l : List D). length (bytes_of l)) (append-nil row) in omega (arith, same)
    grows_on row (x ∷ xs) =
        let one = grows row x in
        let rest = grows_on (row ++ x ∷ []) xs in
        let same = ap (λ (l : List D). length (bytes_of l)) (append_assoc row (x ∷ []) xs) in
        omega (arith, one, rest, same)

    -- from the first part of a row the split makes this row, and goes on behind it
    makes_row : (row more : List D) (rows : List (List D)) → 1 ≤ length row → Within (row ++ more) → Full ((row ++ more) ∷ rows) → EachIs Within rows
        → split_from row (more ++ posting_list rows) ≡ (row ++ more) ∷ greedy number bytes_of (posting_list rows)
    makes_row row [] [] some within full others = ap (λ (l : List D). l ∷ []) (sym (append-nil row))
    makes_row row [] ([] ∷ rows) some within full others = let none = others.0.some in absurd (omega (arith, none))
    makes_row row [] ((y ∷ ys) ∷ rows) some within full others =
        ap (λ (b : Bool). if b then split_from (row ++ y ∷ []) (ys ++ posting_list rows) else row ∷ split_from (y ∷ []) (ys ++ posting_list rows)) stops
        ∙ ap (λ (l : List D). l ∷ split_from (y ∷ []) (ys ++ posting_list rows)) (sym (append-nil row))
      where
        stops : nat_le (length (bytes_of (row ++ y ∷ []))) limit ≡ false
        stops = lt-leb _ _ (subst (λ (l : List D). limit < length (bytes_of (l ++ y ∷ []))) (append-nil row) full.0)
    makes_row row (z ∷ zs) rows some within full others =
        ap (λ (b : Bool). if b then split_from (row ++ z ∷ []) (zs ++ posting_list rows) else row ∷ split_from (z ∷ []) (zs ++ posting_list rows)) goes_on
        ∙ makes_row (row ++ z ∷ []) zs rows (let long = length-append row (z ∷ []) in omega (arith, long)) (subst Within same within) (subst (λ (l : List D). Full (l ∷ rows)) same full) others
        ∙ ap (λ (l : List D). l ∷ greedy number bytes_of (posting_list rows)) (sym same)
      where
        same : row ++ z ∷ zs ≡ (row ++ z ∷ []) ++ zs
        same = sym (append_assoc row (z ∷ []) zs)

        goes_on : nat_le (length (bytes_of (row ++ z ∷ []))) limit ≡ true
        goes_on = elim within.short [
          | inl short ↦
              let part = grows_on (row ++ z ∷ []) zs in
              let whole = ap (λ (l : List D). length (bytes_of l)) same in
              le-leb _ _ (omega (arith, short, part, whole))
          | inr alone ↦ let long = length-append row (z ∷ zs) in absurd (omega (arith, alone, long, some))
        ]

    rows_are : (rows : List (List D)) → EachIs Within rows → Full rows → rows ≡ greedy number bytes_of (posting_list rows)
    rows_are [] within full = refl
    rows_are ([] ∷ rows) within full = let none = within.0.some in absurd (omega (arith, none))
    rows_are ((x ∷ xs) ∷ rows) within full =
        ap (λ (l : List (List D)). (x ∷ xs) ∷ l) (rows_are rows within.1 (behind rows full))
        ∙ sym (makes_row (x ∷ []) xs rows (omega arith) within.0 full within.1)
      where
        behind : (rows : List (List D)) → Full ((x ∷ xs) ∷ rows) → Full rows
        behind [] full = tt
        behind (next ∷ rows) full = full.1

    -- THE ONLY SPLIT
    pub split_is_greedy : (xs : List D) (rows : List (List D)) → IsSplit number bytes_of xs rows → rows ≡ greedy number bytes_of xs
    split_is_greedy xs rows is = rows_are rows is.within is.full ∙ ap (greedy number bytes_of) is.whole

  -- ---- rows of the split are short, where each document is by itself

  pub each_short : (most : ℕ) → limit ≤ most → (xs : List D) → ((x : D) → IsIn x xs → length (bytes_of (x ∷ [])) ≤ most)
      → EachIs (λ (row : List D). length (bytes_of row) ≤ most) (greedy number bytes_of xs)
  each_short most low xs small = go (greedy number bytes_of xs) (greedy_is_split xs).within (λ x h. small x (subst (IsIn x) (posting_list-greedy number bytes_of xs) h))
    where
      one : (row : List D) → length row ≡ 1 → ((x : D) → IsIn x row → length (bytes_of (x ∷ [])) ≤ most) → length (bytes_of row) ≤ most
      one [] alone each = cc
      one (x ∷ []) alone each = each x (inl refl)
      one (x ∷ y ∷ ys) alone each = absurd (omega (arith, alone))

      go : (rows : List (List D)) → EachIs Within rows → ((x : D) → IsIn x (posting_list rows) → length (bytes_of (x ∷ [])) ≤ most) → EachIs (λ (row : List D). length (bytes_of row) ≤ most) rows
      go [] within each = tt
      go (row ∷ rows) within each = (
        elim within.0.short [ inl short ↦ omega (arith, short, low) | inr alone ↦ one row alone (λ x h. each x (in_left x row (posting_list rows) h)) ],
        go rows within.1 (λ x h. each x (in_right x row (posting_list rows) h)),
      )
