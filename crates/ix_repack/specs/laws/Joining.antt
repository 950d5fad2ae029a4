-- What is joined of a posting list is put as its split.
use Rattle.std.specs.Prelude.{ℕ, ◌≡◌, Bool, true, false, cond, List, [], ◌∷◌, ◌++◌, map, Option, Some, None, refl}
use Rattle.std.specs.Ordering.{nat_cmp, is_eq, eq_by_cmp}
use Rattle.std.specs.Cmp.Lexicographic.{slice_cmp}
use Rattle.std.specs.FinMap.{get, insert, empty, from_sorted, get-empty, get-insert, get-from_sorted, entries-from_sorted, same_map, slice_cmp-IsAntisymmetric, nat_cmp-IsAntisymmetric}
use Rattle.std.proofs.Common.{sym, ap, ◌∙◌, inl, inr, arith, append-nil}
use Rattle.std.proofs.lemmas.Cmp.{nat_list_cmp_total, tied_itself}
use Rattle.ct_entry.specs.declared.kinds.Kind.{Kind}
use Rattle.ct_entry.specs.Keys.{Key, key}
use Rattle.ct_entry.specs.Changes.{put_value}
use Rattle.ct_entry.specs.Each.{each}
use Rattle.ct_entry.specs.Lists.{IsIn, EachIs}
use Rattle.ct_entry.specs.laws.Maps.{entries-none}
use Rattle.ix_posting.specs.declared.rows.RowDocument.{RowDocument}
use Rattle.ix_posting.specs.Forms.{PlaceForm, counted_bytes}
use Rattle.ix_posting.specs.Lists.{posting_list}
use Rattle.ix_posting.specs.Rows.{IsPostingRowOf, DocumentsRise, posting_bytes_of}
use Rattle.ix_rows.specs.Posts.{Rises}
use Rattle.ix_rows.specs.Spelling.{AreRows, row_key, first_document, greedy}
use Rattle.ix_rows.specs.Growing.{Growing, nothing_yet, with_grown_document, grown_all, grown_rows}
use Rattle.ix_rows.specs.RowMaps.{TermRowsView, or_nothing, with_posting, row_changes, row_map_changes}
use Rattle.ix_rows.specs.PlacedRows.{document_number}
use Rattle.ix_rows.specs.Taking.{SpellRows, Hold}
use Rattle.ix_rows.specs.laws.Growing.{spelt_row, grown_is_greedy}
use Rattle.ix_rows.specs.laws.PlacedRows.{place_bytes, row_spelt, row_laws, HasPlaces}
use Rattle.ix_rows.specs.laws.Tidies.{rows_good}
use Rattle.ix_repack.specs.Repacking.{row_entry, kept_documents, rows_come, rows_drop, entries_drop, joins_one, joins_all}

-- a map of one term
abbrev only : List ℕ → Growing → TermRowsView
only t g = from_sorted ((t, g) ∷ [])

only_at : (t : List ℕ) (g : Growing) (q : List ℕ) → get (only t g) q ≡ cond (eq_by_cmp (slice_cmp nat_cmp) q t) (Some g) None
only_at t g q = get-from_sorted (slice_cmp nat_cmp) ((t, g) ∷ []) q tt

same_maps : (m n : TermRowsView) → ((q : List ℕ) → get m q ≡ get n q) → m ≡ n
same_maps m n is = same_map nat_list_cmp_total (slice_cmp-IsAntisymmetric nat_cmp-IsAntisymmetric) m n is

put_first : (t : List ℕ) (g : Growing) → insert empty t g ≡ only t g
put_first t g =
    same_maps (insert empty t g) (only t g) (λ q.
    get-insert nat_list_cmp_total empty t g q
    ∙ ap (λ (o : Option Growing). cond (eq_by_cmp (slice_cmp nat_cmp) q t) (Some g) o) (get-empty (slice_cmp nat_cmp) q)
    ∙ sym (only_at t g q))

put_once_more : (t : List ℕ) (g h : Growing) → insert (only t g) t h ≡ only t h
put_once_more t g h =
    same_maps (insert (only t g) t h) (only t h) (λ q.
    get-insert nat_list_cmp_total (only t g) t h q
    ∙ ap (λ (o : Option Growing). cond (eq_by_cmp (slice_cmp nat_cmp) q t) (Some h) o) (only_at t g q)
    ∙ last (eq_by_cmp (slice_cmp nat_cmp) q t)
    ∙ sym (only_at t h q))
  where
    last : (b : Bool) → cond b (Some h) (cond b (Some g) None) ≡ cond b (Some h) None
    last true = refl
    last false = refl

its_rows : (t : List ℕ) (g : Growing) → get (only t g) t ≡ Some g
its_rows t g = only_at t g t ∙ ap (λ (b : Bool). cond b (Some g) None) (ap is_eq (tied_itself nat_list_cmp_total t))

module _ {P : Type 0} (form : PlaceForm P) where
  -- ---- documents that stay, one list after the other

  pub joins-append : (keep : ℕ → Bool) (out : TermRowsView) (t : List ℕ) (xs ys : List (RowDocument P)) → joins_all form keep (joins_all form keep out t xs) t ys ≡ joins_all form keep out t (xs ++ ys)
  joins-append keep out t [] ys = refl
  joins-append keep out t (x ∷ xs) ys = joins-append keep (joins_one form keep out t x) t xs ys

  kept_rise : (keep : ℕ → Bool) (before : ℕ) (xs : List (RowDocument P)) → Rises document_number before xs → Rises document_number before (kept_documents form keep xs)
  kept_rise keep before [] up = tt
  kept_rise keep before (x ∷ xs) up = go (keep x.document) (kept_rise keep x.document xs up.2)
    where
      lower : (ys : List (RowDocument P)) → Rises document_number x.document ys → Rises document_number before ys
      lower [] r = tt
      lower (y ∷ ys) r = (omega (arith, up.0, r.0), r.1, r.2)

      go : (b : Bool) → Rises document_number x.document (kept_documents form keep xs) → Rises document_number before (cond b (x ∷ kept_documents form keep xs) (kept_documents form keep xs))
      go true rest = (up.0, up.1, rest)
      go false rest = lower (kept_documents form keep xs) rest

  abbrev grown_from : Growing → List (RowDocument P) → Growing
  grown_from = grown_all document_number (place_bytes form)

  -- ---- of one term

  joins_on : (keep : ℕ → Bool) (t : List ℕ) (g : Growing) (xs : List (RowDocument P)) → joins_all form keep (only t g) t xs ≡ only t (grown_from g (kept_documents form keep xs))
  joins_on keep t g [] = refl
  joins_on keep t g (x ∷ xs) = go (keep x.document) (λ h. joins_on keep t h xs)
    where
      one : with_posting (only t g) t x.document (counted_bytes form x.places) ≡ only t (with_grown_document g x.document (counted_bytes form x.places))
      one =
          ap (λ (o : Option Growing). insert (only t g) t (with_grown_document (or_nothing o) x.document (counted_bytes form x.places))) (its_rows t g)
          ∙ put_once_more t g (with_grown_document g x.document (counted_bytes form x.places))

      go : (b : Bool) → ((h : Growing) → joins_all form keep (only t h) t xs ≡ only t (grown_from h (kept_documents form keep xs)))
          → joins_all form keep (cond b (with_posting (only t g) t x.document (counted_bytes form x.places)) (only t g)) t xs ≡ only t (grown_from g (cond b (x ∷ kept_documents form keep xs) (kept_documents form keep xs)))
      go true rest = ap (λ (m : TermRowsView). joins_all form keep m t xs) one ∙ rest (with_grown_document g x.document (counted_bytes form x.places))
      go false rest = rest g

  -- of none there is nothing, and else the rows of this one term
  abbrev OfTerm : List ℕ → List (RowDocument P) → TermRowsView
  OfTerm t [] = empty
  OfTerm t (x ∷ xs) = only t (grown_from nothing_yet (x ∷ xs))

  joins_first : (keep : ℕ → Bool) (t : List ℕ) (xs : List (RowDocument P)) → joins_all form keep empty t xs ≡ OfTerm t (kept_documents form keep xs)
  joins_first keep t [] = refl
  joins_first keep t (x ∷ xs) = go (keep x.document) (joins_first keep t xs)
    where
      one : with_posting empty t x.document (counted_bytes form x.places) ≡ only t (with_grown_document nothing_yet x.document (counted_bytes form x.places))
      one =
          ap (λ (o : Option Growing). insert empty t (with_grown_document (or_nothing o) x.document (counted_bytes form x.places))) (get-empty (slice_cmp nat_cmp) t)
          ∙ put_first t (with_grown_document nothing_yet x.document (counted_bytes form x.places))

      go : (b : Bool) → joins_all form keep empty t xs ≡ OfTerm t (kept_documents form keep xs)
          → joins_all form keep (cond b (with_posting empty t x.document (counted_bytes form x.places)) empty) t xs ≡ OfTerm t (cond b (x ∷ kept_documents form keep xs) (kept_documents form keep xs))
      go true rest = ap (λ (m : TermRowsView). joins_all form keep m t xs) one ∙ joins_on keep t (with_grown_document nothing_yet x.document (counted_bytes form x.places)) xs
      go false rest = rest

  module _ (kind : Kind) (i t : List ℕ) where
    abbrev of_term : List ℕ × Growing → List (Key × Option (List ℕ))
    of_term e = row_changes kind i e.0 (grown_rows e.1)

    put_so : (rows : List (List (RowDocument P))) → row_changes kind i t (map (spelt_row document_number (place_bytes form) (posting_bytes_of form) (row_spelt form)) rows) ≡ rows_come form kind i t rows
    put_so [] = refl
    put_so (row ∷ rows) = ap (λ (ws : List (Key × Option (List ℕ))). put_value (key kind i (row_key t (first_document document_number row))) (posting_bytes_of form row) ∷ ws) (put_so rows)

    term_put : (xs : List (RowDocument P)) → Rises document_number 0 xs → row_map_changes kind i (OfTerm t xs) ≡ rows_come form kind i t (greedy document_number (posting_bytes_of form) xs)
    term_put [] up = ap (each of_term) (entries-none (slice_cmp nat_cmp))
    term_put (x ∷ xs) up =
        let g = grown_from nothing_yet (x ∷ xs) in
        ap (each of_term) (entries-from_sorted (slice_cmp nat_cmp) ((t, g) ∷ []) tt)
        ∙ append-nil (of_term (t, g))
        ∙ ap (row_changes kind i t) (grown_is_greedy document_number (place_bytes form) (posting_bytes_of form) (row_spelt form) (x ∷ xs) up)
        ∙ put_so (greedy document_number (posting_bytes_of form) (x ∷ xs))

    -- WHAT IS JOINED OF A RISING LIST is put as its split
    pub joined_changes : (keep : ℕ → Bool) (xs : List (RowDocument P)) → Rises document_number 0 xs
        → row_map_changes kind i (joins_all form keep empty t xs) ≡ rows_come form kind i t (greedy document_number (posting_bytes_of form) (kept_documents form keep xs))
    joined_changes keep xs up =
        ap (row_map_changes kind i) (joins_first keep t xs)
        ∙ term_put (kept_documents form keep xs) (kept_rise keep 0 xs up)

    -- the entries of rows go as the rows
    pub drops_so : (rows : List (List (RowDocument P))) → entries_drop kind i t (map (row_entry form) rows) ≡ rows_drop form kind i t rows
    drops_so [] = refl
    drops_so (row ∷ rows) = ap (λ (ws : List (Key × Option (List ℕ))). (key kind i (row_key t (first_document document_number row)), None) ∷ ws) (drops_so rows)

  -- ---- entries hold the rows that they spell

  spell_rows : (rows : List (List (RowDocument P))) → EachIs (IsPostingRowOf form) rows → SpellRows form (map (row_entry form) rows) rows
  spell_rows [] are = tt
  spell_rows (row ∷ rows) are = (are.0, refl, spell_rows rows are.1)

  pub rises_with_places : (before : ℕ) (xs : List (RowDocument P)) → Rises document_number before xs → ((x : RowDocument P) → IsIn x xs → HasPlaces form x) → DocumentsRise form before xs
  rises_with_places before [] up good = tt
  rises_with_places before (x ∷ xs) up good = let g = good x (inl refl) in (up.0, up.1, g.0, g.1, g.2, rises_with_places x.document xs up.2 (λ y h. good y (inr h)))

  pub rows_hold : (rows : List (List (RowDocument P))) → AreRows document_number (IsPostingRowOf form) rows → Hold form (map (row_entry form) rows) rows
  rows_hold rows are = record {
    spell = spell_rows rows are.each;
    rise = rises_with_places 0 (posting_list rows) are.rise (rows_good document_number (posting_bytes_of form) (IsPostingRowOf form) (HasPlaces form) (row_laws form) rows are.each);
  }

  pub rises_of : (before : ℕ) (xs : List (RowDocument P)) → DocumentsRise form before xs → Rises document_number before xs
  rises_of before [] r = tt
  rises_of before (x ∷ xs) r = (r.0, r.1, rises_of x.document xs r.5)
