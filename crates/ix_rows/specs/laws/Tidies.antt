-- An optimisation renews the rows of several terms at once, as a batch that is made from what was read.
use Rattle.std.specs.Prelude.{ℕ, ℤ, ◌≡◌, ◌≤◌, Bool, true, false, cond, ◌||◌, List, [], ◌∷◌, ◌++◌, length, filter, Option, Some, is_some, refl, nat_le}
use Rattle.std.proofs.Common.{sym, ap, subst, ◌∙◌, inl, inr, arith, append_assoc}
use Rattle.ct_entry.specs.declared.kinds.Kind.{Kind}
use Rattle.ct_entry.specs.Keys.{Key, same_list}
use Rattle.ct_entry.specs.Changes.{view}
use Rattle.ct_entry.specs.Each.{each, is_any_of}
use Rattle.ct_entry.specs.laws.Keys.{list_from_same}
use Rattle.ct_entry.specs.laws.Changes.{view-append}
use Rattle.ct_entry.specs.Lists.{IsIn, AreApart, EachIs}
use Rattle.ct_entry.specs.laws.Lists.{in_filter, in_left, in_right, in_either}
use Rattle.ix_posting.specs.Lists.{posting_list}
use Rattle.ix_rows.specs.Posts.{Rises}
use Rattle.ix_rows.specs.Spelling.{AreRows, greedy, greedy_from}
use Rattle.ix_rows.specs.laws.Spelling.{HasFirst, renew_changes, renewed, posting_list-greedy}
use Rattle.ix_rows.specs.Stores.{Tidiness, Untidy, Packed, Clean, StoreStands, IsTidy}
use Rattle.ix_rows.specs.laws.Stores.{store_renewed}
use Rattle.std.specs.Bool.{if◌then◌else◌}
use Rattle.std.proofs.lemmas.List.{length-append}

module _ {D : Type 0} (number : D → ℕ) (bytes_of : List D → List ℕ) (IsRow : List D → Type 0) (IsTerm : List ℕ → Type 0) (cost : List ℕ × D → ℕ) where
  -- rows that may take the place of a term's rows
  pub record Renews (row : ℕ → Option ℤ) (tidiness : Tidiness) (keep : ℕ → Bool) (olds news : List (List D)) : Type 0 where
    pub same : posting_list news ≡ filter (λ x. keep (number x)) (posting_list olds)
    pub are : AreRows number IsRow news
    pub tidy : IsTidy number bytes_of tidiness row news
    pub firsts : EachIs (HasFirst number) news
    pub old_firsts : EachIs (HasFirst number) olds

  -- the changes on several terms
  abbrev pub renew_all : Kind → List ℕ → (List ℕ → List (List D)) → (List ℕ → List (List D)) → List (List ℕ) → List (Key × Option (List ℕ))
  renew_all kind i olds news ts = each (λ t. renew_changes number bytes_of kind i t (olds t) (news t)) ts

  -- the rows after them
  abbrev pub renewed_all : (List ℕ → List (List D)) → (List ℕ → List (List D)) → List (List ℕ) → List ℕ → List (List D)
  renewed_all olds news ts t = cond (is_any_of t ts) (news t) (olds t)

  module _ (kind : Kind) (i : List ℕ) (want : ℤ → List ℕ → ℕ → Option D) (row : ℕ → Option ℤ) (given : ℕ) (tidiness : Tidiness) (waste : ℕ) where
    abbrev Stands : (Key → Option (List ℕ)) → (List ℕ → List (List D)) → Type 0
    Stands f rows = StoreStands number bytes_of IsRow IsTerm cost f kind i want row given tidiness waste rows

    pub store_renewed_all : (keep : ℕ → Bool) → ((d : ℕ) (r : ℤ) → row d ≡ Some r → keep d ≡ true) → (olds news : List ℕ → List (List D))
        → (ts : List (List ℕ)) → AreApart ts → ((t : List ℕ) → IsIn t ts → Renews row tidiness keep (olds t) (news t))
        → (f : Key → Option (List ℕ)) (rows : List ℕ → List (List D)) → ((t : List ℕ) → IsIn t ts → rows t ≡ olds t) → Stands f rows → Stands (view (renew_all kind i olds news ts) f) (renewed_all rows news ts)
    store_renewed_all keep mapped olds news [] apart ok f rows same stand = stand
    store_renewed_all keep mapped olds news (t ∷ ts) apart ok f rows same stand =
        let r = ok t (inl refl) in
        let is : rows t ≡ olds t = same t (inl refl) in
        let one = store_renewed number bytes_of IsRow IsTerm cost f kind i want row given tidiness waste rows stand t keep (news t) mapped
        (r.same ∙ ap (λ (l : List (List D)). filter (λ x. keep (number x)) (posting_list l)) (sym is)) r.are r.tidy r.firsts (subst (EachIs (HasFirst number)) (sym is) r.old_firsts) in
        let first_words : view (renew_changes number bytes_of kind i t (rows t) (news t)) f ≡ view (renew_changes number bytes_of kind i t (olds t) (news t)) f = ap (λ (l : List (List D)). view (renew_changes number bytes_of kind i t l (news t)) f) is in
        let f1 = view (renew_changes number bytes_of kind i t (olds t) (news t)) f in
        let at : Stands f1 (renewed number bytes_of kind i rows t (news t)) =
        subst (λ (g : Key → Option (List ℕ)). Stands g (renewed number bytes_of kind i rows t (news t))) first_words
        one in
        let rest = store_renewed_all keep mapped olds news ts apart.1 (λ u h. ok u (inr h)) f1 (renewed number bytes_of kind i rows t (news t)) (λ u h. others u h (same_list u t) refl (same u (inr h))) at in
        subst (λ (g : List ℕ → List (List D)). Stands (view (renew_all kind i olds news (t ∷ ts)) f) g) (λ j u. both u (same_list u t) refl j)
        (subst (λ (g : Key → Option (List ℕ)). Stands g (renewed_all (renewed number bytes_of kind i rows t (news t)) news ts)) (sym (view-append (renew_changes number bytes_of kind i t (olds t) (news t)) (renew_all kind i olds news ts) f)) rest)
      where
        others : (u : List ℕ) → IsIn u ts → (b : Bool) → same_list u t ≡ b → rows u ≡ olds u → cond b (news t) (rows u) ≡ olds u
        others u h true e was = absurd (apart.0 (subst (λ (v : List ℕ). IsIn v ts) (list_from_same u t e) h))
        others u h false e was = was

        both : (u : List ℕ) (b : Bool) → same_list u t ≡ b → cond (is_any_of u ts) (news u) (cond (same_list u t) (news t) (rows u)) ≡ cond (same_list u t || is_any_of u ts) (news u) (rows u)
        both u true e =
            ap (λ (b : Bool). cond (is_any_of u ts) (news u) (cond b (news t) (rows u))) e
            ∙ ap (λ (v : List ℕ). cond (is_any_of u ts) (news u) (news v)) (sym (list_from_same u t e)) ∙ idle (is_any_of u ts) (news u)
            ∙ ap (λ (b : Bool). cond (b || is_any_of u ts) (news u) (rows u)) (sym e)
          where
            idle : (b : Bool) (l : List (List D)) → cond b l l ≡ l
            idle true l = refl
            idle false l = refl
        both u false e =
            ap (λ (b : Bool). cond (is_any_of u ts) (news u) (cond b (news t) (rows u))) e ∙ ap (λ (b : Bool). cond (b || is_any_of u ts) (news u) (rows u)) (sym e)

-- ---- what is known of the rows of a kind

-- a row is some documents that rise, each of which is good by itself
pub record RowLaws {D : Type 0} (number : D → ℕ) (IsRow : List D → Type 0) (IsGood : D → Type 0) : Type 0 where
  pub good : (row : List D) → IsRow row → (x : D) → IsIn x row → IsGood x
  pub rises : (row : List D) → IsRow row → Rises number 0 row
  pub some : (row : List D) → IsRow row → 1 ≤ length row
  pub row : (xs : List D) → 1 ≤ length xs → Rises number 0 xs → ((x : D) → IsIn x xs → IsGood x) → IsRow xs

module _ {D : Type 0} (number : D → ℕ) (bytes_of : List D → List ℕ) (IsRow : List D → Type 0) (IsGood : D → Type 0) (laws : RowLaws number IsRow IsGood) where
  -- the split of the documents that are kept
  abbrev pub kept_rows : (ℕ → Bool) → List (List D) → List (List D)
  kept_rows keep olds = greedy number bytes_of (filter (λ x. keep (number x)) (posting_list olds))

  rises_filter : (p : D → Bool) (xs : List D) (before : ℕ) → Rises number before xs → Rises number before (filter p xs)
  rises_filter p [] before r = tt
  rises_filter p (x ∷ xs) before r = go (p x) (rises_filter p xs (number x) r.2)
    where
      lower : (ys : List D) → Rises number (number x) ys → Rises number before ys
      lower [] r2 = tt
      lower (y ∷ ys) r2 = (omega (arith, r.0, r2.0), r2.1, r2.2)

      go : (b : Bool) → Rises number (number x) (filter p xs) → Rises number before (cond b (x ∷ filter p xs) (filter p xs))
      go true rest = (r.0, r.1, rest)
      go false rest = lower (filter p xs) rest

  pub firsts_of : (rows : List (List D)) → EachIs IsRow rows → EachIs (HasFirst number) rows
  firsts_of [] all = tt
  firsts_of (row ∷ rows) all = (go row (laws.some row all.0) (laws.rises row all.0), firsts_of rows all.1)
    where
      go : (row : List D) → 1 ≤ length row → Rises number 0 row → HasFirst number row
      go [] some r = absurd (omega (arith, some))
      go (x ∷ xs) some r = r.1

  pub rows_good : (rows : List (List D)) → EachIs IsRow rows → (x : D) → IsIn x (posting_list rows) → IsGood x
  rows_good [] all x h = absurd h
  rows_good (row ∷ rows) all x h = elim (in_either x row (posting_list rows) h) [ inl a ↦ laws.good row all.0 x a | inr b ↦ rows_good rows all.1 x b ]

  from_zero : (before : ℕ) (xs : List D) → Rises number before xs → Rises number 0 xs
  from_zero before [] r = tt
  from_zero before (x ∷ xs) r = (omega (arith, r.0), r.1, r.2)

  front : (before : ℕ) (xs ys : List D) → Rises number before (xs ++ ys) → Rises number before xs
  front before [] ys r = tt
  front before (x ∷ xs) ys r = (r.0, r.1, front (number x) xs ys r.2)

  behind : (before : ℕ) (xs ys : List D) → Rises number before (xs ++ ys) → (c : ℕ) × Rises number c ys
  behind before [] ys r = (before, r)
  behind before (x ∷ xs) ys r = behind (number x) xs ys r.2

  greedy_from_rows : (row xs : List D) → 1 ≤ length row → Rises number 0 (row ++ xs) → ((x : D) → IsIn x (row ++ xs) → IsGood x) → EachIs IsRow (greedy_from number bytes_of row xs)
  greedy_from_rows row [] some r good = (laws.row row some (front 0 row [] r) (λ x h. good x (in_left x row [] h)), tt)
  greedy_from_rows row (x ∷ xs) some r good =
      go (nat_le (length (bytes_of (row ++ x ∷ []))) 3500)
      (greedy_from_rows (row ++ x ∷ []) xs (omega (arith, length-append row (x ∷ []))) (subst (Rises number 0) (sym (append_assoc row (x ∷ []) xs)) r) (λ y h. good y (subst (IsIn y) (append_assoc row (x ∷ []) xs) h)))
      (let b = behind 0 row (x ∷ xs) r in greedy_from_rows (x ∷ []) xs (omega arith) (from_zero b.0 (x ∷ xs) b.1) (λ y h. good y (in_right y row (x ∷ xs) h)))
    where
      go : (b : Bool) → EachIs IsRow (greedy_from number bytes_of (row ++ x ∷ []) xs) → EachIs IsRow (greedy_from number bytes_of (x ∷ []) xs)
          → EachIs IsRow (if b then greedy_from number bytes_of (row ++ x ∷ []) xs else row ∷ greedy_from number bytes_of (x ∷ []) xs)
      go true more here = more
      go false more here = (laws.row row some (front 0 row (x ∷ xs) r) (λ y h. good y (in_left y row (x ∷ xs) h)), here)

  -- the split of good documents that rise is rows
  pub greedy_rows : (xs : List D) → Rises number 0 xs → ((x : D) → IsIn x xs → IsGood x) → EachIs IsRow (greedy number bytes_of xs)
  greedy_rows [] r good = tt
  greedy_rows (x ∷ xs) r good = greedy_from_rows (x ∷ []) xs (omega arith) r good

module _ {D : Type 0} (number : D → ℕ) (bytes_of : List D → List ℕ) (IsRow : List D → Type 0) (IsGood : D → Type 0) (laws : RowLaws number IsRow IsGood) (IsTerm : List ℕ → Type 0) (cost : List ℕ × D → ℕ) where
  abbrev kept : (ℕ → Bool) → List (List D) → List (List D)
  kept keep olds = kept_rows number bytes_of IsRow IsGood laws keep olds

  abbrev Tidy : Tidiness → (ℕ → Option ℤ) → List (List D) → Type 0
  Tidy tidiness row rows = IsTidy number bytes_of tidiness row rows

  -- what is put is packed, clean where only rows are kept, and no less tidy than before
  packed : (keep : ℕ → Bool) (olds : List (List D)) → kept keep olds ≡ greedy number bytes_of (posting_list (kept keep olds))
  packed keep olds = sym (ap (greedy number bytes_of) (posting_list-greedy number bytes_of (filter (λ x. keep (number x)) (posting_list olds))))

  in_kept : (keep : ℕ → Bool) (olds : List (List D)) (x : D) → IsIn x (posting_list (kept keep olds)) → IsIn x (posting_list olds) × (keep (number x) ≡ true)
  in_kept keep olds x h = in_filter (λ (x : D). keep (number x)) x (posting_list olds) (subst (IsIn x) (posting_list-greedy number bytes_of (filter (λ x. keep (number x)) (posting_list olds))) h)

  pub kept_tidy : (row : ℕ → Option ℤ) (keep : ℕ → Bool) (olds : List (List D)) (tidiness : Tidiness) → Tidy tidiness row olds → Tidy tidiness row (kept keep olds)
  kept_tidy row keep olds Untidy was = tt
  kept_tidy row keep olds Packed was = packed keep olds
  kept_tidy row keep olds Clean was = (packed keep olds, λ x h. was.1 x (in_kept keep olds x h).0)

  pub kept_clean : (row : ℕ → Option ℤ) (olds : List (List D)) → Tidy Clean row (kept (λ d. is_some (row d)) olds)
  kept_clean row olds = (packed (λ d. is_some (row d)) olds, λ x h. (in_kept (λ d. is_some (row d)) olds x h).1)

  pub renews : (row : ℕ → Option ℤ) (tidiness : Tidiness) (keep : ℕ → Bool) (olds : List (List D)) → AreRows number IsRow olds → Tidy tidiness row olds
      → Renews number bytes_of IsRow IsTerm cost row tidiness keep olds (kept keep olds)
  renews row tidiness keep olds are tidy =
      let up = rises_filter number bytes_of IsRow IsGood laws (λ x. keep (number x)) (posting_list olds) 0 are.rise in
      let rows = greedy_rows number bytes_of IsRow IsGood laws (filter (λ x. keep (number x)) (posting_list olds)) up (λ x h. rows_good number bytes_of IsRow IsGood laws olds are.each x (in_filter (λ (x : D). keep (number x)) x (posting_list olds) h).0) in
      let same = posting_list-greedy number bytes_of (filter (λ x. keep (number x)) (posting_list olds)) in
      record {
        same = same;
        are = record { each = rows; rise = subst (Rises number 0) (sym same) up };
        tidy = kept_tidy row keep olds tidiness tidy;
        firsts = firsts_of number bytes_of IsRow IsGood laws (kept keep olds) rows;
        old_firsts = firsts_of number bytes_of IsRow IsGood laws olds are.each;
      }

  module _ (f : Key → Option (List ℕ)) (kind : Kind) (i : List ℕ) (want : ℤ → List ℕ → ℕ → Option D) (row : ℕ → Option ℤ) (given : ℕ) (tidiness : Tidiness) (waste : ℕ) (rows : List ℕ → List (List D)) (ts : List (List ℕ))
      (stand : StoreStands number bytes_of IsRow IsTerm cost f kind i want row given tidiness waste rows) (apart : AreApart ts) (terms : (t : List ℕ) → IsIn t ts → IsTerm t) where
    abbrev pub tidy_batch : (ℕ → Bool) → List (Key × Option (List ℕ))
    tidy_batch keep = renew_all number bytes_of IsRow IsTerm cost kind i rows (λ t. kept keep (rows t)) ts

    abbrev pub tidy_rows : (ℕ → Bool) → List ℕ → List (List D)
    tidy_rows keep = renewed_all number bytes_of IsRow IsTerm cost rows (λ t. kept keep (rows t)) ts

    -- OF SOME TERMS: tidiness and waste stay (an optimisation with a limit)
    pub some_terms : (keep : ℕ → Bool) → ((d : ℕ) (r : ℤ) → row d ≡ Some r → keep d ≡ true)
        → StoreStands number bytes_of IsRow IsTerm cost (view (tidy_batch keep) f) kind i want row given tidiness waste (tidy_rows keep)
    some_terms keep mapped =
        store_renewed_all number bytes_of IsRow IsTerm cost kind i want row given tidiness waste keep mapped rows (λ t. kept keep (rows t)) ts apart
        (λ t h. renews row tidiness keep (rows t) (stand.are t (terms t h)) (stand.tidy t (terms t h))) f rows (λ t h. refl) stand
