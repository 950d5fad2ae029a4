-- Rows of postings, and the bytes that spell them: a run of varints of differences. A row is of words, whose places are positions, or of
-- sections, whose places are pairs of positions.
use Rattle.std.specs.Prelude.{ℕ, ◌≡◌, ◌-◌, ◌<◌, ◌≤◌, ◌^◌, List, [], ◌∷◌, ◌++◌, length, refl}
use Rattle.ct_base.specs.declared.numbers.Pair.{Pair}
use Rattle.ct_bytes.specs.Varints.{varint}
use Rattle.ix_posting.specs.Forms.{PlaceForm, PlacesRise, counted_bytes, number_form, pair_form}
use Rattle.ix_posting.specs.declared.rows.RowDocument.{RowDocument}

module _ {P : Type 0} (form : PlaceForm P) where
  -- the documents rise, the first from above `before`, and each has at least one place and fewer than 2 ^ 32; its places rise
  abbrev pub DocumentsRise : ℕ → List (RowDocument P) → Type 0
  DocumentsRise before [] = Unit {0}
  DocumentsRise before (d ∷ ds) =
      (before < d.document) × (d.document < 2 ^ 32) × (1 ≤ length d.places) × (length d.places < 2 ^ 32) × PlacesRise form form.origin d.places × DocumentsRise d.document ds

  -- A ROW of postings
  pub record IsPostingRowOf (row : List (RowDocument P)) : Type 0 where
    pub some : 1 ≤ length row
    pub few : length row < 2 ^ 32
    pub rise : DocumentsRise 0 row

  -- a document after the one before it: the step to it, and its places
  abbrev pub document_bytes : ℕ → RowDocument P → List ℕ
  document_bytes before d = varint (d.document - before) ++ counted_bytes form d.places

  abbrev pub documents_bytes : ℕ → List (RowDocument P) → List ℕ
  documents_bytes before [] = []
  documents_bytes before (d ∷ ds) = document_bytes before d ++ documents_bytes d.document ds

  -- THE BYTES OF A ROW: how many documents, and each in turn
  abbrev pub posting_bytes_of : List (RowDocument P) → List ℕ
  posting_bytes_of row = varint (length row) ++ documents_bytes 0 row

-- ---- rows of words

abbrev pub WordDocument : Type 0
WordDocument = RowDocument ℕ

abbrev pub IsPostingRow : List WordDocument → Type 0
IsPostingRow = IsPostingRowOf number_form

abbrev pub posting_bytes : List WordDocument → List ℕ
posting_bytes = posting_bytes_of number_form

-- ---- rows of sections

abbrev pub SpanDocument : Type 0
SpanDocument = RowDocument Pair

abbrev pub IsSpanRow : List SpanDocument → Type 0
IsSpanRow = IsPostingRowOf pair_form

abbrev pub span_row_bytes : List SpanDocument → List ℕ
span_row_bytes = posting_bytes_of pair_form

-- ---- computed examples

one_document : posting_bytes (record { document = 1; places = 1 ∷ 3 ∷ [] } ∷ []) ≡ 1 ∷ 1 ∷ 2 ∷ 1 ∷ 2 ∷ []
unfolding varint
one_document = refl

larger_numbers : posting_bytes (record { document = 300; places = 1 ∷ 200 ∷ [] } ∷ []) ≡ 0x01 ∷ 0xac ∷ 0x02 ∷ 0x02 ∷ 0x01 ∷ 0xc7 ∷ 0x01 ∷ []
unfolding varint
larger_numbers = refl

two_documents : posting_bytes (record { document = 1; places = 1 ∷ [] } ∷ record { document = 2; places = 1 ∷ [] } ∷ []) ≡ 2 ∷ 1 ∷ 1 ∷ 1 ∷ 1 ∷ 1 ∷ 1 ∷ []
unfolding varint
two_documents = refl

one_pair : span_row_bytes (record { document = 1; places = record { first = 1; last = 200 } ∷ [] } ∷ []) ≡ 0x01 ∷ 0x01 ∷ 0x01 ∷ 0x01 ∷ 0xc7 ∷ 0x01 ∷ []
unfolding varint
one_pair = refl

-- two pairs may begin alike
pairs_with_one_first : span_row_bytes (record { document = 7; places = record { first = 2; last = 5 } ∷ record { first = 2; last = 9 } ∷ record { first = 130; last = 130 } ∷ [] } ∷ []) ≡ 0x01 ∷ 0x07 ∷ 0x03 ∷ 0x02 ∷ 0x03 ∷ 0x00 ∷ 0x07 ∷ 0x80 ∷ 0x01 ∷ 0x00 ∷ []
unfolding varint
pairs_with_one_first = refl

two_documents_of_sections : span_row_bytes (record { document = 1; places = record { first = 1; last = 1 } ∷ [] } ∷ record { document = 300; places = record { first = 4; last = 6 } ∷ [] } ∷ []) ≡ 0x02 ∷ 0x01 ∷ 0x01 ∷ 0x01 ∷ 0x00 ∷ 0xab ∷ 0x02 ∷ 0x01 ∷ 0x04 ∷ 0x02 ∷ []
unfolding varint
two_documents_of_sections = refl
