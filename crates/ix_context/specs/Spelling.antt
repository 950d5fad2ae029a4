-- The entries of a CONTEXT index.
use Rattle.std.specs.Prelude.{Bool, true, false, ◌||◌, ℕ, ◌≡◌, ◌<◌, ◌^◌, List, [], ◌∷◌, ◌++◌, Option, Some, None, length, codes, refl}
use Rattle.std.specs.Int.{to_be_bytes, w32}
use Rattle.ct_bytes.specs.Varints.{varint, text_bytes}
use Rattle.ct_base.specs.Names.{IsName}
use Rattle.ct_entry.specs.declared.kinds.Kind.{Kind}
use Rattle.ct_entry.specs.declared.kinds.Kind.TheVariants as kind
use Rattle.ct_entry.specs.Keys.{Key, key}
use Rattle.ct_entry.specs.Changes.{put_value}
use Rattle.tb_table.specs.declared.columns.Target.{Target}
use Rattle.tx_settings.specs.declared.preferences.Prefs.{Prefs}
use Rattle.tx_settings.specs.Defaults.{default_prefs}
use Rattle.tx_settings.specs.PrefsBytes.{prefs_bytes, IsPrefs}
use lib.Utf8.{encode}
use Rattle.ix_context.specs.declared.entries.IndexEntry.{IndexEntry}
use Rattle.ix_context.specs.declared.places.Tidiness.{Tidiness as StoredTidiness}
use Rattle.ix_context.specs.declared.places.Place.{Place}
use Rattle.ix_kinds.specs.Standing.{is_entry}
use Rattle.ix_rows.specs.Stores.{Tidiness, Untidy, Packed}
use Rattle.ix_context.specs.Places.{IsPlace, IsPlaceRead, no_place, word_place, place_bytes, tidiness_of, end_bytes}

-- what follows the table in the entry of an index that ends so: its column in one byte, that it isn't transactional, its preferences, that
-- it has no sub-index, and the next document in four bytes
abbrev pub after_table : ℕ → Prefs → ℕ → List ℕ → List ℕ
after_table column prefs next end = column ∷ 0 ∷ prefs_bytes prefs ++ (0 ∷ (to_be_bytes w32 next ++ end))

-- its kind 1, its table as a text, and what follows that
abbrev pub with_end : List ℕ → ℕ → Prefs → ℕ → List ℕ → List ℕ
with_end table column prefs next end = 1 ∷ text_bytes table ++ after_table column prefs next end

-- The entry of a CONTEXT index: it ends in how tidy the index is, and in the place where an optimisation goes on.
abbrev pub index_bytes : List ℕ → ℕ → Prefs → ℕ → Tidiness → List ℕ → List ℕ
index_bytes table column prefs next tidiness place = with_end table column prefs next (end_bytes tidiness place)

-- by what code holds
abbrev pub stored_bytes : Target → Prefs → ℕ → StoredTidiness → Place → List ℕ
stored_bytes target prefs next tidiness place = index_bytes target.table target.column prefs next (tidiness_of tidiness) (place_bytes place)

-- the change that gives an index on this target its entry, with the document that it gives next
abbrev pub index_change : List ℕ → Target → Prefs → ℕ → Tidiness → List ℕ → Key × Option (List ℕ)
index_change i target prefs next tidiness place = put_value (key kind.Indexes i []) (index_bytes target.table target.column prefs next tidiness place)

abbrev pub stored_change : List ℕ → Target → Prefs → ℕ → StoredTidiness → Place → Key × Option (List ℕ)
stored_change i target prefs next tidiness place = put_value (key kind.Indexes i []) (stored_bytes target prefs next tidiness place)

-- ---- the kinds

-- of the entries that tell of its rows
abbrev pub is_context_part : Kind → Bool
is_context_part kind.DocumentRows = true
is_context_part kind.RowDocuments = true
is_context_part kind.Pending = true
is_context_part kind.Postings = true
is_context_part kind.Spans = true
is_context_part k = false

-- of all entries of a CONTEXT index
abbrev pub is_of_context : Kind → Bool
is_of_context k = is_entry k || is_context_part k

-- ---- what is read from the entry of an index

-- the entry is that of an index with these parts; or of none
abbrev pub SpellsIndex : Option (List ℕ) → Option IndexEntry → Type 0
SpellsIndex entry (Some e) =
    IsName e.target.table × (e.target.column < 256) × IsPrefs e.prefs × (e.next_document < 2 ^ 32) × IsPlaceRead e.place
    × (entry ≡ Some (stored_bytes e.target e.prefs e.next_document e.tidiness e.place))
SpellsIndex entry None =
    (table : List ℕ) (column : ℕ) (prefs : Prefs) (next : ℕ) (tidiness : Tidiness) (place : List ℕ) → IsName table → column < 256 → IsPrefs prefs → next < 2 ^ 32 → IsPlace place
    → entry ≡ Some (index_bytes table column prefs next tidiness place) → ⊥

-- Where the bytes are the entry of an index, whatever its end, these are its table, its column, its preferences, its next document and its end.
abbrev pub HasIndexParts : List ℕ → Option (List ℕ × ℕ × Prefs × ℕ × List ℕ) → Type 0
HasIndexParts value parts =
    (table : List ℕ) (column : ℕ) (prefs : Prefs) (next : ℕ) (end : List ℕ) → length table < 2 ^ 32 → IsPrefs prefs → next < 2 ^ 32
    → value ≡ with_end table column prefs next end → parts ≡ Some (table, column, prefs, next, end)

-- computed examples
a_posting_is : is_of_context kind.Postings ≡ true
a_posting_is = refl

no_catalogue : is_of_context kind.Catalogue ≡ false
no_catalogue = refl

-- the entry of an index on the column 1 of a table `t` that reads by the defaults and has given two documents
an_entry : index_bytes (codes "t") 1 default_prefs 3 Untidy no_place ≡ 1 ∷ 1 ∷ 0x74 ∷ 1 ∷ 0 ∷ 0 ∷ 0 ∷ 2 ∷ 0 ∷ 0 ∷ 0 ∷ 0 ∷ 0 ∷ 0 ∷ 3 ∷ 0 ∷ 0 ∷ 0 ∷ []
unfolding varint encode
an_entry = refl

-- the same once it is packed, where an optimisation goes on behind the word `fox` of the main stream
a_tidy_entry : index_bytes (codes "t") 1 default_prefs 3 Packed (word_place 0 (codes "fox"))
    ≡ 1 ∷ 1 ∷ 0x74 ∷ 1 ∷ 0 ∷ 0 ∷ 0 ∷ 2 ∷ 0 ∷ 0 ∷ 0 ∷ 0 ∷ 0 ∷ 0 ∷ 3 ∷ 1 ∷ 0 ∷ 3 ∷ 0x66 ∷ 0x6f ∷ 0x78 ∷ []
unfolding varint encode
a_tidy_entry = refl

-- of one that passes over the word `is`
with_a_stopword : index_bytes (codes "t") 1 (record default_prefs { stop = codes "is" ∷ [] }) 3 Untidy no_place ≡ 1 ∷ 1 ∷ 0x74 ∷ 1 ∷ 0 ∷ 0 ∷ 1 ∷ 2 ∷ 0x69 ∷ 0x73 ∷ 2 ∷ 0 ∷ 0 ∷ 0 ∷ 0 ∷ 0 ∷ 0 ∷ 3 ∷ 0 ∷ 0 ∷ 0 ∷ []
unfolding varint encode
with_a_stopword = refl
