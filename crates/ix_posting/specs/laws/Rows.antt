-- What holds of the bytes of every row, whatever the form of its places.
use Rattle.std.proofs.Common.{◌≡◌, ℕ, List, refl, ap, Ok, Err}
use Rattle.ix_posting.specs.Forms.{PlaceForm}
use Rattle.ix_posting.specs.Rows.{posting_bytes_of}
use Rattle.ix_posting.specs.Places.{IsForm, IsDocumentAt, AreDocumentsAt}
use Rattle.ix_posting.specs.Promises.{RowsHaveOneSpelling, RowsAreReadBack}
use Rattle.ix_posting.specs.laws.Wholes.{whole_alone}
use Rattle.ix_posting.specs.laws.Documents.{documents, row_parts}
use Rattle.ix_posting.specs.declared.faults.RowFault.TheVariants.{BadRow, Memory as OutOfMemory}

module _ {P : Type 0} (form : PlaceForm P) (lawful : IsForm form) where
  pub rows_one : RowsHaveOneSpelling form
  rows_one a b is_a is_b same =
      let bytes : List ℕ = posting_bytes_of form b in
      let first = row_parts form bytes a is_a same in
      (whole_alone (IsDocumentAt form bytes) (AreDocumentsAt form bytes) (λ d. d.document) (documents form lawful bytes) _ _ _ _ _ _ first.count first.all (row_parts form bytes b is_b refl)).0

  pub rows_read_back : RowsAreReadBack form
  rows_read_back row (Ok r) is read memory = ap Ok (rows_one r row read.rules is read.row)
  rows_read_back row (Err BadRow) is read memory = absurd (read.bad refl row is refl)
  rows_read_back row (Err OutOfMemory) is read memory = absurd (memory refl)
