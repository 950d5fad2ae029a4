-- Which rows entries hold, and which of them are taken.
use Rattle.std.specs.Prelude.{ℕ, ◌≡◌, List, [], ◌∷◌, Option, Some, None, refl}
use Rattle.std.proofs.Common.{arith}
use Rattle.ix_posting.specs.declared.rows.RowDocument.{RowDocument}
use Rattle.ix_posting.specs.Lists.{posting_list}
use Rattle.ix_posting.specs.Forms.{PlaceForm, number_form}
use Rattle.ix_posting.specs.Rows.{WordDocument, DocumentsRise, IsPostingRowOf, posting_bytes_of, posting_bytes}
use Rattle.ix_rows.specs.PlacedRows.{document_number}

-- ---- D is a document with its places

module _ {D : Type 0} (number : D → ℕ) where
  -- the number of the last document, or the one before all
  abbrev pub last_number : ℕ → List D → ℕ
  last_number before [] = before
  last_number before (x ∷ xs) = last_number (number x) xs

module _ {P : Type 0} (form : PlaceForm P) where
  -- the values of the entries spell these rows, in their order
  abbrev pub SpellRows : List (List ℕ × List ℕ) → List (List (RowDocument P)) → Type 0
  SpellRows [] [] = Unit {0}
  SpellRows [] (row ∷ rows) = ⊥
  SpellRows (e ∷ es) [] = ⊥
  SpellRows (e ∷ es) (row ∷ rows) = IsPostingRowOf form row × (posting_bytes_of form row ≡ e.1) × SpellRows es rows

  -- and the documents rise from one row to the next
  pub record Hold (es : List (List ℕ × List ℕ)) (rows : List (List (RowDocument P))) : Type 0 where
    pub spell : SpellRows es rows
    pub rise : DocumentsRise form 0 (posting_list rows)

  -- where the entries hold rows, these are they
  abbrev pub AreHeld : List (List ℕ × List ℕ) → List (List (RowDocument P)) → Type 0
  AreHeld es rows = (held : List (List (RowDocument P))) → Hold es held → rows ≡ held

  -- What is taken of entries: rows whose documents rise; and where the entries hold rows, these.
  pub record AreTaken (es : List (List ℕ × List ℕ)) (rows : List (List (RowDocument P))) : Type 0 where
    pub rise : DocumentsRise form 0 (posting_list rows)
    pub all : AreHeld es rows

  -- what bytes give behind a document: the row that they spell with its last number, where its documents rise from above that document; and else nothing
  abbrev pub IsTaken : ℕ → List ℕ → Option (List (RowDocument P) × ℕ) → Type 0
  IsTaken before bytes None = (row : List (RowDocument P)) → IsPostingRowOf form row → posting_bytes_of form row ≡ bytes → DocumentsRise form before row → ⊥
  IsTaken before bytes (Some (row, last)) = DocumentsRise form before row × (last ≡ last_number document_number before row) × ((held : List (RowDocument P)) → IsPostingRowOf form held → posting_bytes_of form held ≡ bytes → row ≡ held)

-- ---- computed examples

abbrev at_two : ℕ → WordDocument
at_two d = record { document = d; places = 2 ∷ [] }

the_last : last_number document_number 0 (at_two 3 ∷ at_two 8 ∷ []) ≡ 8
the_last = refl

the_one_before : last_number (document_number {P = ℕ}) 5 [] ≡ 5
the_one_before = refl

-- documents that begin at 3 don't rise behind it
not_behind_itself : DocumentsRise number_form 3 (at_two 3 ∷ at_two 8 ∷ []) → ⊥
not_behind_itself rise = let first = rise.0 in omega (arith, first)

-- the bytes of a row whose first document is 3, behind the document 2
a_row_held : IsPostingRowOf number_form (at_two 3 ∷ []) → SpellRows number_form ((0 ∷ [], posting_bytes (at_two 3 ∷ [])) ∷ []) ((at_two 3 ∷ []) ∷ [])
a_row_held is = (is, refl, tt)
