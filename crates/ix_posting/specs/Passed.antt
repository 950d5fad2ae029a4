-- What stands in bytes that are gone over without being kept.
use Rattle.std.specs.Prelude.{ℕ, ◌≡◌, ◌≤◌, List, [], ◌∷◌, refl}
use Rattle.ix_posting.specs.Forms.{PlaceForm}
use Rattle.ix_posting.specs.Rows.{WordDocument, IsPostingRowOf, posting_bytes_of}
use Rattle.ix_posting.specs.Places.{ArePlacesAt, IsDocumentAt, AreDocumentsAt}
use Rattle.ix_posting.specs.declared.rows.RowDocument.{RowDocument}

module _ {P : Type 0} where
  -- the number of the last document, or the one before all
  abbrev pub last_number : ℕ → List (RowDocument P) → ℕ
  last_number before [] = before
  last_number before (d ∷ ds) = last_number d.document ds

  -- no document stands behind a number
  abbrev pub NoneBehind : ℕ → List (RowDocument P) → Type 0
  NoneBehind last [] = Unit {0}
  NoneBehind last (d ∷ ds) = (d.document ≤ last) × NoneBehind last ds

module _ {P : Type 0} (form : PlaceForm P) where
  -- so many places of a document
  abbrev pub HasPlacesAt : List ℕ → ℕ → ℕ → ℕ → Type 0
  HasPlacesAt bytes at count next = (ps : List P) × ArePlacesAt form bytes form.origin at count ps next

  -- a document of this number
  abbrev pub HasDocumentAt : List ℕ → ℕ → ℕ → ℕ → ℕ → Type 0
  HasDocumentAt bytes before at number next = (d : RowDocument P) × (d.document ≡ number) × IsDocumentAt form bytes before at d next

  -- so many documents of which the last has this number; 0 where there are none
  abbrev pub HasDocumentsAt : List ℕ → ℕ → ℕ → ℕ → ℕ → Type 0
  HasDocumentsAt bytes at count last next = (ds : List (RowDocument P)) × (last ≡ last_number 0 ds) × AreDocumentsAt form bytes 0 at count ds next

  -- THE BYTES OF A ROW whose last document has this number
  abbrev pub EndsAt : List ℕ → ℕ → Type 0
  EndsAt bytes last = (row : List (RowDocument P)) × IsPostingRowOf form row × (posting_bytes_of form row ≡ bytes) × (last ≡ last_number 0 row)

-- ---- computed examples: the documents 3 and 8

abbrev at_one : ℕ → WordDocument
at_one document = record { document = document; places = 1 ∷ [] }

the_last : last_number 0 (at_one 3 ∷ at_one 8 ∷ []) ≡ 8
the_last = refl

the_one_before : last_number {P = ℕ} 5 [] ≡ 5
the_one_before = refl
