-- What a batch makes of the entries that spell the rows of terms, and the split of a posting list.
use Rattle.std.specs.Prelude.{ℕ, ◌≡◌, ◌==◌, nat_le, Bool, true, false, cond, ◌&&◌, List, [], ◌∷◌, ◌++◌, length, map, Option, Some, None, refl}
use Rattle.std.specs.Bool.{if◌then◌else◌}
use Rattle.std.proofs.Common.{sym, ap, subst, ◌∙◌, arith, append_assoc}
use Rattle.std.proofs.lemmas.Bool.{eqb-true, eq-eqb, and_from, and_parts}
use Rattle.std.proofs.lemmas.List.{length-append}
use Rattle.ct_entry.specs.declared.kinds.Kind.{Kind}
use Rattle.ct_entry.specs.Keys.{Key, key, same_key, same_list, document_part, IsDocument}
use Rattle.ct_entry.specs.Changes.{put_value, drop_key, told, view}
use Rattle.ct_entry.specs.Each.{each, latest}
use Rattle.ct_entry.specs.laws.Each.{latest-append, latest_gone}
use Rattle.ct_entry.specs.laws.Keys.{list_from_same, list_same, lists_tie}
use Rattle.ct_base.specs.laws.Lists.{append_parts}
use Rattle.ct_entry.specs.laws.Parts.{same_kind, document_part_apart}
use Rattle.ct_entry.specs.laws.Changes.{told-append}
use Rattle.ct_entry.specs.Lists.{EachIs}
use Rattle.ix_posting.specs.Lists.{posting_list}
use Rattle.ix_rows.specs.Spelling.{row_key, first_document, row_value, RowsSpelled, greedy_from, greedy}

-- two such rests are one exactly where both parts are, since documents take four bytes
pub row_key_apart : (t u : List ℕ) (d e : ℕ) → IsDocument d → IsDocument e → row_key t d ≡ row_key u e → (t ≡ u) × (d ≡ e)
row_key_apart t u d e f g same =
    let long : length t ≡ length u = omega (arith, ap length same, length-append t (document_part d), length-append u (document_part e)) in
    let parts = append_parts t u (document_part d) (document_part e) long same in
    (parts.0, document_part_apart d e f g parts.1)

pub row_keys_tie : (t u : List ℕ) (d e : ℕ) → IsDocument d → IsDocument e → same_list (row_key t d) (row_key u e) ≡ (same_list t u && (d == e))
row_keys_tie t u d e f g = lists_tie (row_key t d) (row_key u e) (same_list t u && (d == e))
    (λ is. let p = row_key_apart t u d e f g is in and_from _ _ (subst (λ (l : List ℕ). same_list t l ≡ true) p.0 (list_same t)) (eq-eqb d e p.1))
    (λ h. let p = and_parts _ _ h in λ i. row_key (list_from_same t u p.0 i) (eqb-true d e p.1 i))

module _ {D : Type 0} (number : D → ℕ) where
  -- each row's first document is one
  abbrev pub HasFirst : List D → Type 0
  HasFirst row = IsDocument (first_document number row)

  -- of each term
  abbrev pub EachHasFirst : List (List ℕ × List (List D)) → Type 0
  EachHasFirst [] = Unit {0}
  EachHasFirst (e ∷ es) = EachIs HasFirst e.1 × EachHasFirst es

module _ {D : Type 0} (number : D → ℕ) (bytes_of : List D → List ℕ) where
  -- ---- changes

  abbrev pub put_row : Kind → List ℕ → List ℕ → List D → Key × Option (List ℕ)
  put_row kind i term row = put_value (key kind i (row_key term (first_document number row))) (bytes_of row)

  abbrev pub drop_row : Kind → List ℕ → List ℕ → List D → Key × Option (List ℕ)
  drop_row kind i term row = drop_key (key kind i (row_key term (first_document number row)))

  module _ (kind : Kind) (i : List ℕ) where
    -- changes on the rows of a term, each with a value, are told of these rows alone
    told_rows : (value : List D → Option (List ℕ)) (term : List ℕ) (rows : List (List D)) (t : List ℕ) (d : ℕ) (old : Option (List ℕ)) → EachIs (HasFirst number) rows → IsDocument d
        → told (map (λ row. (key kind i (row_key term (first_document number row)), value row)) rows) (key kind i (row_key t d)) old ≡ cond (same_list t term) (latest (λ row. d == first_document number row) value rows old) old
    told_rows value term [] t d old firsts document = none (same_list t term)
      where
        none : (b : Bool) → old ≡ cond b old old
        none true = refl
        none false = refl
    told_rows value term (row ∷ rows) t d old firsts document =
        ap (λ (b : Bool). told (map (λ row. (key kind i (row_key term (first_document number row)), value row)) rows) (key kind i (row_key t d)) (cond b (value row) old)) one
        ∙ told_rows value term rows t d (cond (same_list t term && (d == first_document number row)) (value row) old) firsts.1 document
        ∙ either (same_list t term) (d == first_document number row)
      where
        one : same_key (key kind i (row_key t d)) (key kind i (row_key term (first_document number row))) ≡ (same_list t term && (d == first_document number row))
        one = same_kind kind i i (row_key t d) (row_key term (first_document number row)) ∙ ap (λ (b : Bool). b && same_list (row_key t d) (row_key term (first_document number row))) (list_same i) ∙ row_keys_tie t term d (first_document number row) document firsts.0

        either : (a b : Bool)
            → cond a (latest (λ row. d == first_document number row) value rows (cond (a && b) (value row) old)) (cond (a && b) (value row) old) ≡ cond a (latest (λ row. d == first_document number row) value rows (cond b (value row) old)) old
        either true b = refl
        either false b = refl

    -- ---- rows that are added

    -- what some terms get, in the order of the changes
    abbrev pub added : List (List ℕ × List (List D)) → List ℕ → List (List D)
    added [] t = []
    added (e ∷ es) t = cond (same_list t e.0) (e.1 ++ added es t) (added es t)

    abbrev pub add_changes : List (List ℕ × List (List D)) → List (Key × Option (List ℕ))
    add_changes es = each (λ (e : List ℕ × List (List D)). map (put_row kind i e.0) e.1) es

    told_added : (es : List (List ℕ × List (List D))) (t : List ℕ) (d : ℕ) (old : Option (List ℕ)) → EachHasFirst number es → IsDocument d
        → told (add_changes es) (key kind i (row_key t d)) old ≡ latest (λ row. d == first_document number row) (λ row. Some (bytes_of row)) (added es t) old
    told_added [] t d old firsts document = refl
    told_added (e ∷ es) t d old firsts document =
        told-append (map (put_row kind i e.0) e.1) (add_changes es) (key kind i (row_key t d)) old
        ∙ ap (told (add_changes es) (key kind i (row_key t d))) (told_rows (λ row. Some (bytes_of row)) e.0 e.1 t d old firsts.0 document)
        ∙ told_added es t d (cond (same_list t e.0) (latest (λ row. d == first_document number row) (λ row. Some (bytes_of row)) e.1 old) old) firsts.1 document
        ∙ either (same_list t e.0)
      where
        either : (b : Bool)
            → latest (λ row. d == first_document number row) (λ row. Some (bytes_of row)) (added es t) (cond b (latest (λ row. d == first_document number row) (λ row. Some (bytes_of row)) e.1 old) old)
            ≡ latest (λ row. d == first_document number row) (λ row. Some (bytes_of row)) (cond b (e.1 ++ added es t) (added es t)) old
        either true = sym (latest-append (λ row. d == first_document number row) (λ row. Some (bytes_of row)) e.1 (added es t) old)
        either false = refl

    -- Rows that are put behind those of their terms: nothing else has to be known of them.
    pub rows_added : (IsTerm : List ℕ → Type 0) (f : Key → Option (List ℕ)) (rows : List ℕ → List (List D)) (es : List (List ℕ × List (List D))) → EachHasFirst number es
        → RowsSpelled number bytes_of IsTerm f kind i rows → RowsSpelled number bytes_of IsTerm (view (add_changes es) f) kind i (λ t. rows t ++ added es t)
    rows_added IsTerm f rows es firsts stand = record {
      spelled = λ t d is document.
          told_added es t d (f (key kind i (row_key t d))) firsts document
          ∙ ap (latest (λ row. d == first_document number row) (λ row. Some (bytes_of row)) (added es t)) (stand.spelled t d is document)
          ∙ sym (latest-append (λ row. d == first_document number row) (λ row. Some (bytes_of row)) (rows t) (added es t) None);
    }

    -- ---- rows that are put anew

    -- all rows of a term go, and these come
    abbrev pub renew_changes : List ℕ → List (List D) → List (List D) → List (Key × Option (List ℕ))
    renew_changes term olds news = map (drop_row kind i term) olds ++ map (put_row kind i term) news

    abbrev pub renewed : (List ℕ → List (List D)) → List ℕ → List (List D) → List ℕ → List (List D)
    renewed rows term news t = cond (same_list t term) news (rows t)

    pub rows_renewed : (IsTerm : List ℕ → Type 0) (f : Key → Option (List ℕ)) (rows : List ℕ → List (List D)) (term : List ℕ) (news : List (List D))
        → EachIs (HasFirst number) (rows term) → EachIs (HasFirst number) news
        → RowsSpelled number bytes_of IsTerm f kind i rows → RowsSpelled number bytes_of IsTerm (view (renew_changes term (rows term) news) f) kind i (renewed rows term news)
    rows_renewed IsTerm f rows term news olds firsts stand = record {
      spelled = λ t d is document.
          told-append (map (drop_row kind i term) (rows term)) (map (put_row kind i term) news) (key kind i (row_key t d)) (f (key kind i (row_key t d)))
          ∙ ap (told (map (put_row kind i term) news) (key kind i (row_key t d))) (told_rows (λ row. None) term (rows term) t d (f (key kind i (row_key t d))) olds document)
          ∙ told_rows (λ row. Some (bytes_of row)) term news t d (cond (same_list t term) (latest (λ row. d == first_document number row) (λ row. None) (rows term) (f (key kind i (row_key t d)))) (f (key kind i (row_key t d)))) firsts document
          ∙ go t d (same_list t term) refl (stand.spelled t d is document);
    }
      where
        go : (t : List ℕ) (d : ℕ) (b : Bool) → same_list t term ≡ b → f (key kind i (row_key t d)) ≡ row_value number bytes_of (rows t) d
            → cond b (latest (λ row. d == first_document number row) (λ row. Some (bytes_of row)) news (cond b (latest (λ row. d == first_document number row) (λ row. None) (rows term) (f (key kind i (row_key t d)))) (f (key kind i (row_key t d))))) (cond b (latest (λ row. d == first_document number row) (λ row. None) (rows term) (f (key kind i (row_key t d)))) (f (key kind i (row_key t d))))
            ≡ row_value number bytes_of (cond b news (rows t)) d
        go t d true same was =
            ap (latest (λ row. d == first_document number row) (λ row. Some (bytes_of row)) news)
            (ap (latest (λ row. d == first_document number row) (λ row. None) (rows term)) (was ∙ ap (λ (l : List ℕ). row_value number bytes_of (rows l) d) (list_from_same t term same))
            ∙ latest_gone (λ row. d == first_document number row) (λ row. Some (bytes_of row)) (rows term))
        go t d false same was = was

  -- ---- the split of a posting list into rows

  pub posting_list-greedy_from : (row xs : List D) → posting_list (greedy_from number bytes_of row xs) ≡ row ++ xs
  posting_list-greedy_from row [] = refl
  posting_list-greedy_from row (x ∷ xs) =
      go (nat_le (length (bytes_of (row ++ x ∷ []))) 3500) (posting_list-greedy_from (row ++ x ∷ []) xs) (posting_list-greedy_from (x ∷ []) xs)
    where
      go : (b : Bool) → posting_list (greedy_from number bytes_of (row ++ x ∷ []) xs) ≡ (row ++ x ∷ []) ++ xs → posting_list (greedy_from number bytes_of (x ∷ []) xs) ≡ (x ∷ []) ++ xs
          → posting_list (if b then (greedy_from number bytes_of) (row ++ x ∷ []) xs else row ∷ greedy_from number bytes_of (x ∷ []) xs) ≡ row ++ x ∷ xs
      go true more here = more ∙ append_assoc row (x ∷ []) xs
      go false more here = ap (λ (l : List D). row ++ l) here

  -- THE SPLIT LEAVES THE VIEW
  pub posting_list-greedy : (xs : List D) → posting_list (greedy number bytes_of xs) ≡ xs
  posting_list-greedy [] = refl
  posting_list-greedy (x ∷ xs) = posting_list-greedy_from (x ∷ []) xs
