-- What the functions of `src/laws.rt` promise of the bytes of all rows.
use Rattle.std.specs.Prelude.{ℕ, ◌≡◌, List, [], ◌∷◌, Result, Ok, Err, refl}
use Rattle.std.specs.Result.{IfOk}
use Rattle.std.proofs.Common.{arith}
use Rattle.ct_bytes.specs.Varints.{varint}
use Rattle.ix_posting.specs.declared.rows.RowDocument.{RowDocument}
use Rattle.ix_posting.specs.Forms.{PlaceForm, number_form}
use Rattle.ix_posting.specs.Rows.{WordDocument, IsPostingRowOf, posting_bytes_of, IsPostingRow}
use Rattle.ix_posting.specs.declared.faults.RowFault.{RowFault}
use Rattle.ix_posting.specs.declared.faults.RowFault.TheVariants.{BadRow, Memory as OutOfMemory}

module _ {P : Type 0} (form : PlaceForm P) where
  -- a row has bytes of its own
  abbrev pub RowsHaveOneSpelling : Type 0
  RowsHaveOneSpelling = (a b : List (RowDocument P)) → IsPostingRowOf form a → IsPostingRowOf form b → posting_bytes_of form a ≡ posting_bytes_of form b → a ≡ b

  -- Bytes were answered as rows are: by a row that they spell, or by BadRow, where none does.
  pub record IsDecoded (bytes : List ℕ) (answer : Result (List (RowDocument P)) RowFault) : Type 0 where
    pub row : IfOk answer (λ r. posting_bytes_of form r ≡ bytes)
    pub rules : IfOk answer (λ r. IsPostingRowOf form r)
    pub bad : answer ≡ Err BadRow → (row : List (RowDocument P)) → IsPostingRowOf form row → posting_bytes_of form row ≡ bytes → ⊥

  -- the bytes of each row are answered by that row, unless there is no memory
  abbrev pub RowsAreReadBack : Type 0
  RowsAreReadBack = (row : List (RowDocument P)) (answer : Result (List (RowDocument P)) RowFault) → IsPostingRowOf form row → IsDecoded (posting_bytes_of form row) answer → (answer ≡ Err OutOfMemory → ⊥) → answer ≡ Ok row

-- computed examples: five bytes are answered by the row of a document with two positions; no other answer but want of memory would do
abbrev quick_row : List WordDocument
quick_row = record { document = 1; places = 1 ∷ 3 ∷ [] } ∷ []

answered_by_its_row : IsDecoded number_form (1 ∷ 1 ∷ 2 ∷ 1 ∷ 2 ∷ []) (Ok quick_row)
unfolding varint
answered_by_its_row = record {
  row = refl;
  rules = record { some = omega arith; few = omega arith; rise = (omega arith, omega arith, omega arith, omega arith, (omega arith, omega arith, (omega arith, omega arith, tt)), tt) };
  bad = λ e. cc;
}

-- BadRow is no answer to the bytes of a row
not_bad : IsPostingRow quick_row → IsDecoded number_form (1 ∷ 1 ∷ 2 ∷ 1 ∷ 2 ∷ []) (Err BadRow) → ⊥
unfolding varint
not_bad is decoded = decoded.bad refl quick_row is refl
