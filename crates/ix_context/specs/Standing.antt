-- What it means that entries stand for what a CONTEXT index has.
use Rattle.std.specs.Prelude.{ℕ, ℤ, ◌+◌, ◌≤◌, List, Option}
use Rattle.ct_entry.specs.declared.kinds.Kind.TheVariants as kind
use Rattle.ct_entry.specs.declared.kinds.Kind.{Kind}
use Rattle.ct_entry.specs.Keys.{Key}
use Rattle.ct_entry.specs.Maps.{Names}
use Rattle.ix_rows.specs.PlacedRows.{document_number, row_document_cost}
use Rattle.ix_posting.specs.declared.rows.RowDocument.{RowDocument}
use Rattle.ix_posting.specs.Forms.{PlaceForm, number_form, pair_form}
use Rattle.ix_posting.specs.Rows.{WordDocument, SpanDocument, IsPostingRowOf, posting_bytes_of}
use Rattle.ix_rows.specs.Stores.{Tidiness, StoreStands}
use Rattle.ix_rows.specs.WordRows.{IsWordTerm}
use Rattle.ix_rows.specs.SpanRows.{IsSpanTerm}
use Rattle.ix_docmap.specs.Marks.{Marks, MapStands}
use Rattle.ix_context.specs.Indexes.{Part}
use Rattle.ix_context.specs.Documents.{Postings, row_posting}

-- the rows of a kind stand for what the documents have under each term
module _ {P : Type 0} (form : PlaceForm P) (k : Kind) (IsTerm : List ℕ → Type 0) where
  abbrev pub RowsStand : (Key → Option (List ℕ)) → List ℕ → (ℤ → Names (List P)) → (ℕ → Option ℤ) → ℕ → Tidiness → ℕ → (List ℕ → List (List (RowDocument P))) → Type 0
  RowsStand f i has row given tidiness waste rows = StoreStands document_number (posting_bytes_of form) (IsPostingRowOf form) IsTerm (row_document_cost form k i) f k i (row_posting has) row given tidiness waste rows

abbrev pub WordRowsStand : (Key → Option (List ℕ)) → List ℕ → (ℤ → Postings) → (ℕ → Option ℤ) → ℕ → Tidiness → ℕ → (List ℕ → List (List WordDocument)) → Type 0
WordRowsStand f i doc = RowsStand number_form kind.Postings IsWordTerm f i (λ r. (doc r).words)

abbrev pub SpanRowsStand : (Key → Option (List ℕ)) → List ℕ → (ℤ → Postings) → (ℕ → Option ℤ) → ℕ → Tidiness → ℕ → (List ℕ → List (List SpanDocument)) → Type 0
SpanRowsStand f i doc = RowsStand pair_form kind.Spans IsSpanTerm f i (λ r. (doc r).spans)

-- The entries of the index of this name, but that of the kind Indexes, stand for these marks, where the rows have these postings: with some numbering of the
-- settled rows, some rows of postings, and some waste that is within the index's.
pub record PartStands (f : Key → Option (List ℕ)) (i : List ℕ) (doc : ℤ → Postings) (mark : Marks) (part : Part) : Type 0 where
  pub document : ℤ → Option ℕ
  pub row : ℕ → Option ℤ
  pub word_rows : List ℕ → List (List WordDocument)
  pub span_rows : List ℕ → List (List SpanDocument)
  pub words_waste : ℕ
  pub spans_waste : ℕ
  pub documents : MapStands f i mark part.given document row
  pub words : WordRowsStand f i doc row part.given part.tidiness words_waste word_rows
  pub spans : SpanRowsStand f i doc row part.given part.tidiness spans_waste span_rows
  pub waste : words_waste + spans_waste ≤ part.waste
