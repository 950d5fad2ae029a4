-- One list of all entries that spell a state with a numbering, but for the rows of postings.
use Rattle.std.proofs.Common.{ℕ, ℤ, List, [], ◌∷◌, ◌++◌, map, Option, Some, None, inl, inr}
use Rattle.std.specs.List.{flat_map}
use Rattle.std.specs.Int.{to_be_bytes, w32}
use Rattle.std.specs.FinMap.{entries}
use Rattle.ct_base.specs.declared.lists.Value.{Value}
use Rattle.ct_bytes.specs.RowKeys.{row_bytes}
use Rattle.ct_entry.specs.declared.kinds.Kind.TheVariants as kind
use Rattle.ct_entry.specs.Keys.{Key, key, bytes, row_part, text_part, document_part}
use Rattle.tb_table.specs.Tables.{Table, Tables, numbers_of, texts_of}
use Rattle.tb_table.specs.Spelling.{columns_bytes, row_numbers_bytes}
use Rattle.ix_docmap.specs.Marks.{Mark, Pending, Settled}
use Rattle.ix_kinds.specs.Rows.{table_at}
use Rattle.ix_kinds.specs.Indextypes.{with_body}
use Rattle.ix_kinds.specs.Statements.{place_of}
use Rattle.cat_index.specs.Entries.{catalogue_entries}
use Rattle.ix_indexes.specs.Indexes.{Body, Index, index_entry, kinds, listed_marks}
use Rattle.tx_prefs.specs.Room.{preference_entries}
use Rattle.th_store.specs.Room.{thesaurus_entries}
use Rattle.db_state.specs.States.{StoreState}
use Rattle.db_state.proofs.RuleEntries.{ruled_entries}

abbrev pub Entry : Type 0
Entry = List ℕ × List ℕ

abbrev pub entry : Key → List ℕ → Entry
entry k value = (bytes k, value)

-- ---- tables

abbrev pub text_entry : List ℕ → ℤ → ℕ × List ℕ → Entry
text_entry t r e = entry (key kind.RowTexts t (text_part e.0 r)) e.1

abbrev pub row_entries : List ℕ → ℤ × List Value → List Entry
row_entries t e = entry (key kind.RowNumbers t (row_part e.0)) (row_numbers_bytes (numbers_of e.1)) ∷ map (text_entry t e.0) (texts_of e.1)

abbrev pub table_entries : List ℕ × Table → List Entry
table_entries e = entry (key kind.Tables e.0 []) (columns_bytes e.1.columns) ∷ flat_map (row_entries e.0) (entries e.1.rows)

-- ---- indexes, but for their rows of postings; `document` is which document each settled row of an index is, and `place` the place that the entry of a
-- name ends in

-- which it is by the entries, where this index or none has the name
abbrev pub place_in : (Key → Option (List ℕ)) → List ℕ → Option Index → List ℕ
place_in f i None = []
place_in f i (Some x) = place_of kinds f i x

abbrev pub document_entries : List ℕ → ℤ → Option ℕ → List Entry
document_entries i r None = []
document_entries i r (Some d) = entry (key kind.DocumentRows i (document_part d)) (row_bytes r) ∷ entry (key kind.RowDocuments i (row_part r)) (to_be_bytes w32 d) ∷ []

abbrev pub mark_entries : (List ℕ → ℤ → Option ℕ) → List ℕ → ℤ × Mark (Unit {0}) → List Entry
mark_entries document i (r, Pending) = entry (key kind.Pending i (row_part r)) [] ∷ []
mark_entries document i (r, Settled _) = document_entries i r (document i r)

-- those of the rows of its table in a catalogue, and of the rules in a rule index
abbrev pub filed_entries : Tables → List ℕ → Index → Body → List Entry
filed_entries ts i x (inl c) = []
filed_entries ts i x (inr (inl b)) = catalogue_entries i (with_body x b) (table_at ts x.table)
filed_entries ts i x (inr (inr b)) = ruled_entries i b

abbrev pub index_entries : (List ℕ → ℤ → Option ℕ) → (List ℕ → List ℕ) → Tables → List ℕ × Index → List Entry
index_entries document place ts e = entry (key kind.Indexes e.0 []) (index_entry e.1 (place e.0)) ∷ (flat_map (mark_entries document e.0) (listed_marks e.1.body) ++ filed_entries ts e.0 e.1 e.1.body)

-- ---- the state

abbrev pub all_entries : (List ℕ → ℤ → Option ℕ) → (List ℕ → List ℕ) → StoreState → List Entry
all_entries document place m = flat_map table_entries (entries m.tables) ++ (flat_map (index_entries document place m.tables) (entries m.indexes) ++ (preference_entries m.preferences ++ thesaurus_entries m.thesauri))
