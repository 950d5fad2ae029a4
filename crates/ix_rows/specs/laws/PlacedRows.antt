-- A row weighs at most what its postings cost, and the split of a posting list is rows, whatever the form of the places.
use Rattle.std.specs.Prelude.{ℕ, ◌≡◌, ◌+◌, ◌-◌, ◌≤◌, ◌<◌, ◌^◌, List, [], ◌∷◌, ◌++◌, length, sum_by, refl}
use Rattle.std.proofs.Common.{sym, ap, subst, inl, inr, arith}
use Rattle.std.proofs.lemmas.List.{length-append}
use Rattle.std.proofs.lemmas.List.Sums.{sum_by-cons}
use Rattle.ct_bytes.specs.Varints.{varint}
use Rattle.ct_bytes.specs.laws.Varints.{varint_length}
use Rattle.ct_keep.specs.Content.{entry_weight}
use Rattle.ct_entry.specs.declared.kinds.Kind.{Kind}
use Rattle.ct_entry.specs.Keys.{key, bytes, document_part}
use Rattle.ix_posting.specs.declared.rows.RowDocument.{RowDocument}
use Rattle.ix_posting.specs.Forms.{PlaceForm, PlacesRise, counted_bytes}
use Rattle.ix_posting.specs.Rows.{DocumentsRise, IsPostingRowOf, document_bytes, documents_bytes, posting_bytes_of}
use Rattle.ct_entry.specs.Lists.{IsIn}
use Rattle.ix_rows.specs.Posts.{Rises}
use Rattle.ix_rows.specs.Spelling.{row_key, first_document}
use Rattle.ix_rows.specs.laws.Growing.{steps_of}
use Rattle.ix_rows.specs.laws.Weighs.{singles}
use Rattle.ix_rows.specs.laws.Tidies.{RowLaws}
use Rattle.ix_rows.specs.PlacedRows.{document_number, last_document, row_document_cost}

pub one_byte : length (varint 1) ≡ 1
unfolding varint
one_byte = refl

pub five_bytes : length (varint last_document) ≡ 5
unfolding varint
five_bytes = refl

module _ {P : Type 0} (form : PlaceForm P) (kind : Kind) where
  abbrev cost : List ℕ → List ℕ × RowDocument P → ℕ
  cost = row_document_cost form kind

  -- what the entry of a row weighs
  abbrev pub row_weight : List ℕ → List ℕ × List (RowDocument P) → ℕ
  row_weight i e = entry_weight (bytes (key kind i (row_key e.0 (first_document document_number e.1))), posting_bytes_of form e.1)

  -- ---- a row weighs at most what its postings cost

  key_length : (i t : List ℕ) (d : ℕ) → length (bytes (key kind i (row_key t d))) ≡ length i + length t + 6
  key_length i t d = omega (arith, length-append i (row_key t d), length-append t (document_part d))

  abbrev places_length : RowDocument P → ℕ
  places_length x = length (counted_bytes form x.places)

  document_length : (before : ℕ) (x : RowDocument P) → length (document_bytes form before x) ≡ length (varint (x.document - before)) + places_length x
  document_length before x = length-append (varint (x.document - before)) (counted_bytes form x.places)

  abbrev lasts : RowDocument P → RowDocument P
  lasts x = record { document = last_document; places = x.places }

  cost_length : (i t : List ℕ) (x : RowDocument P) → (length i + length t + 12 + places_length x ≤ cost i (t, x)) × (64 ≤ cost i (t, x))
  cost_length i t x =
      let whole = length-append (varint 1) (document_bytes form 0 (lasts x) ++ []) in
      let inner = length-append (document_bytes form 0 (lasts x)) [] in
      let doc = document_length 0 (lasts x) in
      let k = key_length i t last_document in
      let one = one_byte in
      let five = five_bytes in
      (omega (arith, whole, inner, doc, k, one, five), omega arith)

  documents_length : (i t : List ℕ) (before : ℕ) (xs : List (RowDocument P)) → length (documents_bytes form before xs) ≤ sum_by (cost i) (singles (t, xs))
  documents_length i t before [] = omega arith
  documents_length i t before (x ∷ xs) =
      omega (
        arith,
        length-append (document_bytes form before x) (documents_bytes form x.document xs),
        document_length before x,
        varint_length (x.document - before),
        (cost_length i t x).0,
        sum_by-cons (cost i) (t, x) (singles (t, xs)),
        documents_length i t x.document xs,
      )

  pub row_light : (i : List ℕ) (e : List ℕ × List (RowDocument P)) → IsPostingRowOf form e.1 → row_weight i e ≤ sum_by (cost i) (singles e)
  row_light i (t, []) row = let some = row.some in absurd (omega (arith, some))
  row_light i (t, x ∷ []) row =
      omega (
        arith,
        key_length i t x.document,
        length-append (varint 1) (documents_bytes form 0 (x ∷ [])),
        length-append (document_bytes form 0 x) [],
        document_length 0 x,
        one_byte,
        varint_length (x.document - 0),
        cost_length i t x,
        sum_by-cons (cost i) (t, x) [],
      )
  row_light i (t, x ∷ y ∷ xs) row =
      let n = length (x ∷ y ∷ xs) in
      omega (
        arith,
        key_length i t x.document,
        length-append (varint n) (documents_bytes form 0 (x ∷ y ∷ xs)),
        varint_length n,
        length-append (document_bytes form 0 x) (documents_bytes form x.document (y ∷ xs)),
        document_length 0 x,
        varint_length (x.document - 0),
        length-append (document_bytes form x.document y) (documents_bytes form y.document xs),
        document_length x.document y,
        varint_length (y.document - x.document),
        documents_length i t y.document xs,
        cost_length i t x,
        cost_length i t y,
        sum_by-cons (cost i) (t, x) (singles (t, y ∷ xs)),
        sum_by-cons (cost i) (t, y) (singles (t, xs)),
      )

module _ {P : Type 0} (form : PlaceForm P) where
  -- ---- rows and their documents

  -- places such as a row has
  abbrev pub HasPlaces : RowDocument P → Type 0
  HasPlaces x = (1 ≤ length x.places) × (length x.places < 2 ^ 32) × PlacesRise form form.origin x.places

  rise_of : (before : ℕ) (xs : List (RowDocument P)) → DocumentsRise form before xs → Rises document_number before xs
  rise_of before [] r = tt
  rise_of before (x ∷ xs) r = (r.0, r.1, rise_of x.document xs r.5)

  good_of : (before : ℕ) (xs : List (RowDocument P)) → DocumentsRise form before xs → (x : RowDocument P) → IsIn x xs → HasPlaces x
  good_of before [] r x h = absurd h
  good_of before (y ∷ ys) r x h = elim h [ inl e ↦ subst HasPlaces (sym e) (r.2, r.3, r.4) | inr t ↦ good_of y.document ys r.5 x t ]

  of_rise : (before : ℕ) (xs : List (RowDocument P)) → Rises document_number before xs → ((x : RowDocument P) → IsIn x xs → HasPlaces x) → DocumentsRise form before xs
  of_rise before [] r good = tt
  of_rise before (x ∷ xs) r good = let g = good x (inl refl) in (r.0, r.1, g.0, g.1, g.2, of_rise x.document xs r.2 (λ y h. good y (inr h)))

  few : (before : ℕ) (xs : List (RowDocument P)) → Rises document_number before xs → before < 2 ^ 32 → before + length xs < 2 ^ 32
  few before [] r low = omega (arith, low)
  few before (x ∷ xs) r low = let rest = few x.document xs r.2 r.1 in omega (arith, rest, r.0)

  pub row_laws : RowLaws document_number (IsPostingRowOf form) HasPlaces
  row_laws = record {
    good = λ row is x h. good_of 0 row is.rise x h;
    rises = λ row is. rise_of 0 row is.rise;
    some = λ row is. is.some;
    row = λ xs some r good. let bound = few 0 xs r (omega arith) in record { some = some; few = omega (arith, bound); rise = of_rise 0 xs r good };
  }

  -- ---- the bytes of a row, document by document

  abbrev pub place_bytes : RowDocument P → List ℕ
  place_bytes x = counted_bytes form x.places

  documents_spelt : (before : ℕ) (xs : List (RowDocument P)) → documents_bytes form before xs ≡ steps_of document_number place_bytes before xs
  documents_spelt before [] = refl
  documents_spelt before (x ∷ xs) = ap (λ (l : List ℕ). (varint (x.document - before) ++ place_bytes x) ++ l) (documents_spelt x.document xs)

  pub row_spelt : (row : List (RowDocument P)) → posting_bytes_of form row ≡ varint (length row) ++ steps_of document_number place_bytes 0 row
  row_spelt row = ap (λ (l : List ℕ). varint (length row) ++ l) (documents_spelt 0 row)
