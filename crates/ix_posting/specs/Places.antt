-- What stands in bytes from a place on: the parts of rows.
use Rattle.std.specs.Prelude.{ℕ, ◌≡◌, ◌+◌, ◌≤◌, List, [], ◌∷◌, ◌++◌, length, drop, refl}
use Rattle.std.specs.Coded.{Coded}
use Rattle.std.proofs.Common.{arith}
use Rattle.ct_bytes.specs.Varints.{varint, IsVarintAt}
use Rattle.ix_posting.specs.Forms.{PlaceForm, PlacesRise, places_bytes, number_form}
use Rattle.ix_posting.specs.Rows.{DocumentsRise, documents_bytes}
use Rattle.ix_posting.specs.declared.rows.RowDocument.{RowDocument}

-- From `at` on stand these bytes, and `next` is the place after them.
pub record StandsAt (bytes : List ℕ) (at : ℕ) (piece : List ℕ) (next : ℕ) : Type 0 where
  pub spelt : drop at bytes ≡ piece ++ drop next bytes
  pub end : next ≡ at + length piece

-- So many items, each after the one before it: `Rises before items` says that they may stand after `before`, and `spelling` is their bytes there.
pub record AreItemsAt {S X : Type 0} (Rises : S → List X → Type 0) (spelling : S → List X → List ℕ) (bytes : List ℕ) (before : S) (at count : ℕ) (items : List X) (next : ℕ) : Type 0 where
  pub many : length items ≡ count
  pub rise : Rises before items
  pub stand : StandsAt bytes at (spelling before items) next

-- ---- the places of a document

-- A place after the one before it.
pub record IsPlaceAt {P : Type 0} (form : PlaceForm P) (bytes : List ℕ) (before : P) (at : ℕ) (p : P) (next : ℕ) : Type 0 where
  pub follows : form.Follows before p
  pub alone : form.IsPlace p
  pub stands : StandsAt bytes at (form.bytes before p) next

-- A form is such that rows are read back: one place at most stands from `at` on, and two places are equal in one way at most, as a code for them shows.
pub record IsForm {P : Type 0} (form : PlaceForm P) : Type 0 where
  pub one : (bytes : List ℕ) (before : P) (at : ℕ) (p : P) (i : ℕ) (q : P) (j : ℕ) → IsPlaceAt form bytes before at p i → IsPlaceAt form bytes before at q j → (p ≡ q) × (i ≡ j)
  pub code : Coded P

-- ---- documents

-- What a document begins with: its number, and how many places it has.
pub record IsHeadAt (bytes : List ℕ) (before at document count next : ℕ) : Type 0 where
  pub mid : ℕ
  pub number : IsPlaceAt number_form bytes before at document mid
  pub places : IsVarintAt bytes mid count next
  pub some : 1 ≤ count

module _ {P : Type 0} (form : PlaceForm P) where
  abbrev pub ArePlacesAt : List ℕ → P → ℕ → ℕ → List P → ℕ → Type 0
  ArePlacesAt = AreItemsAt (PlacesRise form) (places_bytes form)

  -- A document: what it begins with, and so many places.
  pub record IsDocumentAt (bytes : List ℕ) (before at : ℕ) (d : RowDocument P) (next : ℕ) : Type 0 where
    pub start : ℕ
    pub head : IsHeadAt bytes before at d.document (length d.places) start
    pub places : ArePlacesAt bytes form.origin start (length d.places) d.places next

  abbrev pub AreDocumentsAt : List ℕ → ℕ → ℕ → ℕ → List (RowDocument P) → ℕ → Type 0
  AreDocumentsAt = AreItemsAt (DocumentsRise form) (documents_bytes form)

-- computed example: the positions 1 and 3 after two other bytes, as their differences
two_numbers : ArePlacesAt number_form (9 ∷ 9 ∷ 1 ∷ 2 ∷ []) 0 2 2 (1 ∷ 3 ∷ []) 4
unfolding varint
two_numbers = record { many = refl; rise = (omega arith, omega arith, (omega arith, omega arith, tt)); stand = record { spelt = refl; end = refl } }
