-- What statements make of the rows of an index of one kind.
use Rattle.std.specs.Prelude.{ℕ, ℤ, ◌≡◌, ◌+◌, ◌≤◌, Bool, true, false, cond, not, ◌||◌, List, [], ◌∷◌, ◌++◌, filter, sum_by, Option, Some, refl}
use Rattle.std.proofs.Common.{sym, ap, subst, ◌∙◌, inl, inr, arith}
use Rattle.ct_entry.specs.declared.kinds.Kind.{Kind}
use Rattle.ct_entry.specs.Keys.{Key, key, same_list}
use Rattle.ct_entry.specs.Changes.{view}
use Rattle.ct_entry.specs.laws.Keys.{list_from_same}
use Rattle.ct_entry.specs.Lists.{IsIn, EachIs}
use Rattle.ix_posting.specs.Lists.{posting_list}
use Rattle.ix_rows.specs.Posts.{posting, Rises}
use Rattle.ix_rows.specs.laws.Posts.{posting_list-append, in_posting}
use Rattle.ix_rows.specs.laws.Stored.{AreNew, without, lists_again, lists_see, lists_added, lists_unmapped, lists_thinned, lists_clean}
use Rattle.ix_rows.specs.Spelling.{row_key, AreRows}
use Rattle.ct_entry.specs.laws.Lists.{each_is-append}
use Rattle.ix_rows.specs.laws.Spelling.{HasFirst, EachHasFirst, add_changes, added, rows_added, renew_changes, renewed, rows_renewed}
use Rattle.ix_rows.specs.Stores.{Tidiness, Untidy, Packed, Clean, IsTidy, StoreStands}

module _ {D : Type 0} (number : D → ℕ) (bytes_of : List D → List ℕ) (IsRow : List D → Type 0) (IsTerm : List ℕ → Type 0) (cost : List ℕ × D → ℕ) where
  -- only the entries of the kind and the index matter
  pub store_agree : (f g : Key → Option (List ℕ)) (kind : Kind) (i : List ℕ) (want : ℤ → List ℕ → ℕ → Option D) (row : ℕ → Option ℤ) (given : ℕ) (tidiness : Tidiness) (waste : ℕ) (rows : List ℕ → List (List D))
      → ((part : List ℕ) → g (key kind i part) ≡ f (key kind i part)) → StoreStands number bytes_of IsRow IsTerm cost f kind i want row given tidiness waste rows → StoreStands number bytes_of IsRow IsTerm cost g kind i want row given tidiness waste rows
  store_agree f g kind i want row given tidiness waste rows same stand = record {
    spelled = record { spelled = λ term d is document. same (row_key term d) ∙ stand.spelled.spelled term d is document };
    are = stand.are;
    lists = stand.lists;
    tidy = stand.tidy;
  }

  -- ---- (i) a synchronisation puts rows of new documents

  rises_both : (before : ℕ) (given : ℕ) (xs ys : List D) → before ≤ given → Rises number before xs → ((x : D) → IsIn x xs → number x ≤ given) → Rises number given ys → Rises number before (xs ++ ys)
  rises_both before given [] ys low a old b = lower ys low b
    where
      lower : (ys : List D) → before ≤ given → Rises number given ys → Rises number before ys
      lower [] low b = tt
      lower (y ∷ ys) low b = (omega (arith, b.0), b.1, b.2)
  rises_both before given (x ∷ xs) ys low a old b = (a.0, a.1, rises_both (number x) given xs ys (old x (inl refl)) a.2 (λ y i. old y (inr i)) b)

  pub store_added : (f : Key → Option (List ℕ)) (kind : Kind) (i : List ℕ) (want : ℤ → List ℕ → ℕ → Option D) (row row' : ℕ → Option ℤ) (given given' : ℕ) (tidiness : Tidiness) (waste : ℕ) (rows : List ℕ → List (List D)) (es : List (List ℕ × List (List D)))
      → EachHasFirst number es
      → ((term : List ℕ) → IsTerm term → EachIs IsRow (added number bytes_of kind i es term) × Rises number given (posting_list (added number bytes_of kind i es term)))
      → AreNew number IsTerm want row row' given given' (λ term. posting_list (added number bytes_of kind i es term))
      → StoreStands number bytes_of IsRow IsTerm cost f kind i want row given tidiness waste rows → StoreStands number bytes_of IsRow IsTerm cost (view (add_changes number bytes_of kind i es) f) kind i want row' given' Untidy waste (λ term. rows term ++ added number bytes_of kind i es term)
  store_added f kind i want row row' given given' tidiness waste rows es firsts are new stand = record {
    spelled = rows_added number bytes_of kind i IsTerm f rows es firsts stand.spelled;
    are = λ term is. record {
      each = each_is-append IsRow (rows term) (added number bytes_of kind i es term) (stand.are term is).each (are term is).0;
      rise = subst (Rises number 0) (sym (posting_list-append (rows term) (added number bytes_of kind i es term)))
          (rises_both 0 given (posting_list (rows term)) (posting_list (added number bytes_of kind i es term)) (omega arith) (stand.are term is).rise (λ x h. old term is x h) (are term is).1);
    };
    lists = lists_again number IsTerm cost want row' given' (λ term. posting_list (rows term) ++ posting_list (added number bytes_of kind i es term)) (λ term. posting_list (rows term ++ added number bytes_of kind i es term)) waste
        (λ term. posting_list-append (rows term) (added number bytes_of kind i es term))
        (lists_added number IsTerm cost want row row' given given' (λ term. posting_list (rows term)) (λ term. posting_list (added number bytes_of kind i es term)) waste new stand.lists);
    tidy = λ term is. tt;
  }
    where
      old : (term : List ℕ) → IsTerm term → (x : D) → IsIn x (posting_list (rows term)) → number x ≤ given
      old term is x h = (stand.lists.known term (number x) x is (in_list (stand.are term is).rise h)).1
        where
          in_list : Rises number 0 (posting_list (rows term)) → IsIn x (posting_list (rows term)) → posting number (number x) (posting_list (rows term)) ≡ Some x
          in_list r h = in_posting number 0 x (posting_list (rows term)) r h

  -- ---- (ii) a note that takes a row's mark away leaves the rows alone

  pub store_unmapped : (f : Key → Option (List ℕ)) (kind : Kind) (i : List ℕ) (want : ℤ → List ℕ → ℕ → Option D) (row : ℕ → Option ℤ) (given : ℕ) (tidiness : Tidiness) (waste : ℕ) (rows : List ℕ → List (List D)) (d : ℕ) (r : ℤ) (its : List (List ℕ × D))
      → row d ≡ Some r → ((term : List ℕ) (x : D) → IsTerm term → want r term d ≡ Some x → IsIn (term, x) its)
      → StoreStands number bytes_of IsRow IsTerm cost f kind i want row given tidiness waste rows → StoreStands number bytes_of IsRow IsTerm cost f kind i want (without number IsTerm row d) given Untidy (waste + sum_by cost its) rows
  store_unmapped f kind i want row given tidiness waste rows d r its is all stand = record {
    spelled = stand.spelled;
    are = stand.are;
    lists = lists_unmapped number IsTerm cost want row given (λ term. posting_list (rows term)) waste d r its is all stand.lists;
    tidy = λ term is. tt;
  }

  -- the text of a row that has no document may change
  pub store_see : (f : Key → Option (List ℕ)) (kind : Kind) (i : List ℕ) (want want' : ℤ → List ℕ → ℕ → Option D) (row : ℕ → Option ℤ) (given : ℕ) (tidiness : Tidiness) (waste : ℕ) (rows : List ℕ → List (List D))
      → ((d : ℕ) (r : ℤ) → row d ≡ Some r → want' r ≡ want r) → StoreStands number bytes_of IsRow IsTerm cost f kind i want row given tidiness waste rows → StoreStands number bytes_of IsRow IsTerm cost f kind i want' row given tidiness waste rows
  store_see f kind i want want' row given tidiness waste rows same stand = record {
    spelled = stand.spelled;
    are = stand.are;
    lists = lists_see number IsTerm cost want want' row given (λ term. posting_list (rows term)) waste same stand.lists;
    tidy = stand.tidy;
  }

  -- ---- (iii) an optimisation renews the rows of a term, with all of its documents, or with those that are rows

  -- the test by which a term keeps documents
  abbrev pub keeps : List ℕ → (ℕ → Bool) → List ℕ → ℕ → Bool
  keeps term keep t d = not (same_list t term) || keep d

  pub store_renewed : (f : Key → Option (List ℕ)) (kind : Kind) (i : List ℕ) (want : ℤ → List ℕ → ℕ → Option D) (row : ℕ → Option ℤ) (given : ℕ) (tidiness : Tidiness) (waste : ℕ) (rows : List ℕ → List (List D))
      → (stand : StoreStands number bytes_of IsRow IsTerm cost f kind i want row given tidiness waste rows) (term : List ℕ) (keep : ℕ → Bool) (news : List (List D))
      → ((d : ℕ) (r : ℤ) → row d ≡ Some r → keep d ≡ true) → posting_list news ≡ filter (λ x. keep (number x)) (posting_list (rows term)) → AreRows number IsRow news → IsTidy number bytes_of tidiness row news → EachIs (HasFirst number) news → EachIs (HasFirst number) (rows term)
      → StoreStands number bytes_of IsRow IsTerm cost (view (renew_changes number bytes_of kind i term (rows term) news) f) kind i want row given tidiness waste (renewed number bytes_of kind i rows term news)
  store_renewed f kind i want row given tidiness waste rows stand term keep news mapped same are tidy firsts olds = record {
    spelled = rows_renewed number bytes_of kind i IsTerm f rows term news olds firsts stand.spelled;
    are = λ t is. at t (same_list t term) (stand.are t is);
    lists = lists_again number IsTerm cost want row given (λ t. filter (λ x. keeps term keep t (number x)) (posting_list (rows t))) (λ t. posting_list (renewed number bytes_of kind i rows term news t)) waste
        (λ t. list t (same_list t term) refl)
        (lists_thinned number IsTerm cost want row given (λ t. posting_list (rows t)) waste (keeps term keep) (λ t d r is. kept (same_list t term) d r is) stand.lists);
    tidy = λ t is. tidied t (same_list t term) (stand.tidy t is);
  }
    where
      tidied : (t : List ℕ) (b : Bool) → IsTidy number bytes_of tidiness row (rows t) → IsTidy number bytes_of tidiness row (cond b news (rows t))
      tidied t true was = tidy
      tidied t false was = was

      at : (t : List ℕ) (b : Bool) → AreRows number IsRow (rows t) → AreRows number IsRow (cond b news (rows t))
      at t true was = are
      at t false was = was

      all : (xs : List D) → xs ≡ filter (λ (x : D). true) xs
      all [] = refl
      all (x ∷ xs) = ap (λ (l : List D). x ∷ l) (all xs)

      list : (t : List ℕ) (b : Bool) → same_list t term ≡ b → posting_list (cond b news (rows t)) ≡ filter (λ x. not (same_list t term) || keep (number x)) (posting_list (rows t))
      list t true h = same ∙ ap (λ (u : List ℕ). filter (λ x. keep (number x)) (posting_list (rows u))) (sym (list_from_same t term h)) ∙ ap (λ (b : Bool). filter (λ x. not b || keep (number x)) (posting_list (rows t))) (sym h)
      list t false h = all (posting_list (rows t)) ∙ ap (λ (b : Bool). filter (λ x. not b || keep (number x)) (posting_list (rows t))) (sym h)

      kept : (b : Bool) (d : ℕ) (r : ℤ) → row d ≡ Some r → (not b || keep d) ≡ true
      kept true d r is = mapped d r is
      kept false d r is = refl

  -- once each term's rows are so, the index is packed, or clean and without waste
  pub store_packed : (f : Key → Option (List ℕ)) (kind : Kind) (i : List ℕ) (want : ℤ → List ℕ → ℕ → Option D) (row : ℕ → Option ℤ) (given : ℕ) (tidiness : Tidiness) (waste : ℕ) (rows : List ℕ → List (List D))
      → (stand : StoreStands number bytes_of IsRow IsTerm cost f kind i want row given tidiness waste rows) → ((term : List ℕ) → IsTerm term → IsTidy number bytes_of Packed row (rows term)) → StoreStands number bytes_of IsRow IsTerm cost f kind i want row given Packed waste rows
  store_packed f kind i want row given tidiness waste rows stand packed = record { spelled = stand.spelled; are = stand.are; lists = stand.lists; tidy = packed }

  pub store_clean : (f : Key → Option (List ℕ)) (kind : Kind) (i : List ℕ) (want : ℤ → List ℕ → ℕ → Option D) (row : ℕ → Option ℤ) (given : ℕ) (tidiness : Tidiness) (waste : ℕ) (rows : List ℕ → List (List D))
      → (stand : StoreStands number bytes_of IsRow IsTerm cost f kind i want row given tidiness waste rows) → ((term : List ℕ) → IsTerm term → IsTidy number bytes_of Clean row (rows term)) → StoreStands number bytes_of IsRow IsTerm cost f kind i want row given Clean 0 rows
  store_clean f kind i want row given tidiness waste rows stand clean = record {
    spelled = stand.spelled;
    are = stand.are;
    lists = lists_clean number IsTerm cost want row given (λ term. posting_list (rows term)) waste (λ term x is h. (clean term is).1 x h) stand.lists;
    tidy = clean;
  }

  -- no tidiness is claimed any more
  pub store_untidy : (f : Key → Option (List ℕ)) (kind : Kind) (i : List ℕ) (want : ℤ → List ℕ → ℕ → Option D) (row : ℕ → Option ℤ) (given : ℕ) (tidiness : Tidiness) (waste : ℕ) (rows : List ℕ → List (List D))
      → StoreStands number bytes_of IsRow IsTerm cost f kind i want row given tidiness waste rows → StoreStands number bytes_of IsRow IsTerm cost f kind i want row given Untidy waste rows
  store_untidy f kind i want row given tidiness waste rows stand = record { spelled = stand.spelled; are = stand.are; lists = stand.lists; tidy = λ term is. tt }
