-- The rows of a term, whatever the form of their places: the numbers of their documents, and what a posting costs.
use Rattle.std.specs.Prelude.{ℕ, ◌≡◌, ◌-◌, ◌^◌, List, [], ◌∷◌, codes, refl}
use Rattle.ct_bytes.specs.Varints.{varint}
use Rattle.ct_keep.specs.Content.{entry_weight}
use Rattle.ct_entry.specs.declared.kinds.Kind.{Kind}
use Rattle.ct_entry.specs.declared.kinds.Kind.TheVariants as kinds
use Rattle.ct_entry.specs.Keys.{key, bytes}
use Rattle.ix_posting.specs.declared.rows.RowDocument.{RowDocument}
use Rattle.ix_posting.specs.Forms.{PlaceForm, pair_form}
use Rattle.ix_posting.specs.Rows.{posting_bytes_of}
use Rattle.ix_rows.specs.Spelling.{row_key}

abbrev pub document_number : {P : Type 0} → RowDocument P → ℕ
document_number x = x.document

-- the greatest number that a document can have
abbrev pub last_document : ℕ
last_document = 2 ^ 32 - 1

module _ {P : Type 0} (form : PlaceForm P) (kind : Kind) where
  -- the entry of a document of a term that has these places, alone in its row
  abbrev pub lone_entry : List ℕ → ℕ → List ℕ → List P → List ℕ × List ℕ
  lone_entry i d t places = (bytes (key kind i (row_key t d)), posting_bytes_of form (record { document = d; places = places } ∷ []))

  -- WHAT A POSTING COSTS: the weight of the entry that has it alone, under the greatest number
  abbrev pub posting_cost_of : List ℕ → List ℕ × List P → ℕ
  posting_cost_of i e = entry_weight (lone_entry i last_document e.0 e.1)

  abbrev pub row_document_cost : List ℕ → List ℕ × RowDocument P → ℕ
  row_document_cost i s = posting_cost_of i (s.0, s.1.places)

-- computed example: one pair of a section weighs no more than any short entry
a_section : posting_cost_of pair_form kinds.Spans (codes "di") (5 ∷ codes "title", record { first = 1; last = 3 } ∷ []) ≡ 64
unfolding varint
a_section = refl
