-- That what is gathered are rows of words and of sections that a store takes, whatever the texts were.
use Rattle.std.specs.Prelude.{◌≡◌, ◌≤◌, [], ◌∷◌, length, refl}
use Rattle.ct_bytes.specs.Varints.{varint}
use Rattle.ct_keep.specs.Content.{value_limit}
use Rattle.ix_posting.specs.declared.rows.RowDocument.{RowDocument}
use Rattle.ix_posting.specs.Forms.{PlaceForm, number_form, pair_form}
use Rattle.ix_posting.specs.Rows.{posting_bytes_of}
use Rattle.ix_rows.specs.PlacedRows.{document_number}
use Rattle.ix_rows.specs.WordRows.{IsWordTerm}
use Rattle.ix_rows.specs.SpanRows.{IsSpanTerm}
use Rattle.ix_rows.specs.GrowingLists.{AreGrown}
use Rattle.ix_rows.specs.laws.PlacedRows.{HasPlaces, place_bytes}
use Rattle.ix_context.specs.Gathering.{IndexRowsView}

-- a document with places such as a row has, which fits into an entry alone
pub record IsGood {P : Type 0} (form : PlaceForm P) (x : RowDocument P) : Type 0 where
  pub places : HasPlaces form x
  pub short : length (posting_bytes_of form (x ∷ [])) ≤ value_limit

-- the rows under each term are those of a posting list of such documents
pub record AreGathered (g : IndexRowsView) : Type 0 where
  pub words : AreGrown document_number (place_bytes number_form) IsWordTerm (IsGood number_form) g.words
  pub sections : AreGrown document_number (place_bytes pair_form) IsSpanTerm (IsGood pair_form) g.sections

-- computed example: a document of one position takes four bytes
of_one_position : posting_bytes_of number_form (record { document = 1; places = 2 ∷ [] } ∷ []) ≡ 1 ∷ 1 ∷ 1 ∷ 2 ∷ []
unfolding varint
of_one_position = refl
