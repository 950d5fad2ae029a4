-- What calls put into a batch.
use Rattle.std.specs.Prelude.{ℕ, ℤ, ◌+◌, ◌-◌, ◌^◌, ◌<◌, ◌≤◌, MatchOption, Result, OnOk, List, [], ◌∷◌, ◌++◌, length, map, Option, Some, pos, ◌≡◌, codes, refl}
use Rattle.std.specs.List.{cons_option}
use Rattle.std.specs.Option.{option_map}
use Rattle.std.specs.Ordering.{nat_cmp}
use Rattle.std.specs.Cmp.Lexicographic.{slice_cmp}
use Rattle.std.specs.FinMap.{from_sorted, get-from_sorted}
use Rattle.ct_base.specs.declared.numbers.RowKey.{RowKey}
use Rattle.ct_entry.specs.declared.kinds.Kind.{Kind}
use Rattle.ct_entry.specs.declared.kinds.Kind.TheVariants as kind
use Rattle.ct_entry.specs.Keys.{Key}
use Rattle.ct_entry.specs.Changes.{spell}
use Rattle.ct_entry.specs.Maps.{Names}
use Rattle.ct_entry.specs.Each.{each, numbered}
use Rattle.tb_table.specs.declared.columns.Target.{Target}
use Rattle.tb_table.specs.Tables.{Tables}
use Rattle.tx_settings.specs.declared.preferences.Prefs.{Prefs}
use Rattle.ix_posting.specs.Forms.{PlaceForm, number_form, pair_form}
use Rattle.ix_posting.specs.Rows.{posting_bytes_of, posting_bytes}
use Rattle.ix_rows.specs.Stores.{Untidy}
use Rattle.ix_rows.specs.PlacedRows.{document_number}
use Rattle.ix_rows.specs.Spelling.{greedy}
use Rattle.ix_rows.specs.Gathering.{terms_of, gathered_rows, rows_put}
use Rattle.ix_docmap.specs.Changes.{mark_changes, map_settle_changes}
use Rattle.ix_context.specs.Documents.{Postings, postings_by, document_with}
use Rattle.ix_context.specs.Indexes.{target_text}
use Rattle.ix_context.specs.Spelling.{index_change}
use Rattle.std.proofs.Common.{ap}
use Rattle.ct_bytes.specs.Varints.{varint}

-- The rows of a kind, of rows that become documents, the first of them this one, by what they have: of each term under which some of them have anything, in
-- the order of the keys, the split of its posting list.
module _ {P : Type 0} (form : PlaceForm P) (k : Kind) where
  abbrev pub form_changes : List ℕ → (ℤ → Names (List P)) → ℕ → List ℤ → List (Key × Option (List ℕ))
  form_changes i has first rows =
      rows_put document_number (posting_bytes_of form) document_with k i (gathered_rows document_number (posting_bytes_of form) document_with has (numbered first rows) (terms_of has rows))

abbrev pub word_changes : List ℕ → (ℤ → Postings) → ℕ → List ℤ → List (Key × Option (List ℕ))
word_changes i doc = form_changes number_form kind.Postings i (λ r. (doc r).words)

abbrev pub section_changes : List ℕ → (ℤ → Postings) → ℕ → List ℤ → List (Key × Option (List ℕ))
section_changes i doc = form_changes pair_form kind.Spans i (λ r. (doc r).spans)

-- first of words, and then of sections
abbrev pub postings_changes : List ℕ → (ℤ → Postings) → ℕ → List ℤ → List (Key × Option (List ℕ))
postings_changes i doc first rows = word_changes i doc first rows ++ section_changes i doc first rows

-- rows become documents, the first of them this one
abbrev pub mark_each_changes : List ℕ → ℕ → List ℤ → List (Key × Option (List ℕ))
mark_each_changes i first rows = each (λ n. mark_changes i n.0 n.1) (numbered first rows)

-- rows that wait become documents, the first of them this one
abbrev pub settle_each_changes : List ℕ → ℕ → List ℤ → List (Key × Option (List ℕ))
settle_each_changes i first rows = each (map_settle_changes i) (numbered first rows)

-- each row that waits becomes a document, with its postings, of an index on a target that reads texts by these preferences and gives this document next, which then has given
-- these and is untidy, where rows have these texts, and its entry ends in this place; nothing where no row waits
abbrev pub settled_changes : List ℕ → Target → Prefs → List ℕ → (ℤ → Option (List ℕ)) → ℕ → List ℤ → List (Key × Option (List ℕ))
settled_changes i target prefs place text first [] = []
settled_changes i target prefs place text first (r ∷ rs) =
    settle_each_changes i first (r ∷ rs) ++ postings_changes i (postings_by prefs text) first (r ∷ rs) ++ index_change i target prefs (first + length (r ∷ rs)) Untidy place ∷ []

-- ---- what calls add to a batch

-- Unless the call failed, the batch has these changes more.
abbrev pub Adds : {T E : Type 0} → List (List ℕ × Option (List ℕ)) → List (List ℕ × Option (List ℕ)) → Result T E → List (Key × Option (List ℕ)) → Type 0
Adds old new result changes = OnOk result (new ≡ old ++ spell changes)

-- rows become documents of an index on this target that reads texts by these preferences, with their postings, the first of them this one
abbrev pub mark_rows_changes : Tables → List ℕ → Target → Prefs → ℕ → List RowKey → List (Key × Option (List ℕ))
mark_rows_changes ts i target prefs first rows = mark_each_changes i first (map (λ r. r.0) rows) ++ postings_changes i (postings_by prefs (target_text ts target)) first (map (λ r. r.0) rows)

-- rows that wait become documents of it
abbrev pub settle_rows_changes : Tables → List ℕ → Target → Prefs → ℕ → List RowKey → List (Key × Option (List ℕ))
settle_rows_changes ts i target prefs first rows = settle_each_changes i first (map (λ r. r.0) rows) ++ postings_changes i (postings_by prefs (target_text ts target)) first (map (λ r. r.0) rows)

-- Unless the call failed, rows that wait become documents of it by the changes that the batch has more.
abbrev pub AddsSettledRows : {T E : Type 0} → Tables → List ℕ → Target → Prefs → ℕ → List RowKey → List (List ℕ × Option (List ℕ)) → List (List ℕ × Option (List ℕ)) → Result T E → Type 0
AddsSettledRows ts i target prefs first rows old new result = Adds old new result (settle_rows_changes ts i target prefs first rows)

-- ---- what calls find to do, or not

-- these changes, where a count is at most so much; nothing, where it is more
abbrev pub ChangesWithin : ℕ → ℕ → List (Key × Option (List ℕ)) → Option (List (List ℕ × Option (List ℕ))) → Type 0
ChangesWithin most count changes found = MatchOption found (most < count) (λ batch. (count ≤ most) × (batch ≡ spell changes))

-- by which rows that wait become documents of an index on this target that gives this document next, where the next one after them has a number of 32 bits
abbrev pub AreSettleChanges : Tables → List ℕ → Target → Prefs → List ℕ → ℕ → List RowKey → Option (List (List ℕ × Option (List ℕ))) → Type 0
AreSettleChanges ts i target prefs place first rows found =
    ChangesWithin (2 ^ 32 - 1) (first + length rows) (settled_changes i target prefs place (target_text ts target) first (map (λ r. r.0) rows)) found

-- computed examples
-- two rows that have the word `a` at the position 1 become the documents 1 and 2: it has one row of postings, under the first of them
abbrev has_a : Names (List ℕ)
has_a = from_sorted ((0 ∷ 1 ∷ codes "a", 1 ∷ []) ∷ [])

abbrev rows_of_a : Option (List ℕ) → List (List ℕ × Option (List ℕ))
rows_of_a o = spell (rows_put document_number posting_bytes document_with kind.Postings (codes "di")
    ((0 ∷ 1 ∷ codes "a", greedy document_number posting_bytes (cons_option (option_map (document_with 1) o) (cons_option (option_map (document_with 2) o) []))) ∷ []))

one_row_of_two_documents :
    spell (rows_put document_number posting_bytes document_with kind.Postings (codes "di") (gathered_rows document_number posting_bytes document_with (λ r. has_a) ((1, pos 1) ∷ (2, pos 2) ∷ []) ((0 ∷ 1 ∷ codes "a") ∷ [])))
    ≡ (0x24 ∷ 2 ∷ 0x64 ∷ 0x69 ∷ 0 ∷ 1 ∷ 0x61 ∷ 0 ∷ 0 ∷ 0 ∷ 1 ∷ [], Some (2 ∷ 1 ∷ 1 ∷ 1 ∷ 1 ∷ 1 ∷ 1 ∷ [])) ∷ []
unfolding varint
one_row_of_two_documents = ap rows_of_a (get-from_sorted (slice_cmp nat_cmp) ((0 ∷ 1 ∷ codes "a", 1 ∷ []) ∷ []) (0 ∷ 1 ∷ codes "a") tt)

-- nothing is put where no row waits
nothing_to_settle : (target : Target) (prefs : Prefs) (place : List ℕ) (text : ℤ → Option (List ℕ)) → settled_changes (codes "di") target prefs place text 1 [] ≡ []
nothing_to_settle target prefs place text = refl
