-- The changes of notes, synchronisations and new indexes are on keys of their kinds.
use Rattle.std.proofs.Common.{◌≡◌, ℕ, ℤ, ◌+◌, ◌*◌, ◌^◌, ◌<◌, ◌≤◌, true, List, [], ◌∷◌, ◌++◌, length, Option, refl, subst, arith, length-append}
use Rattle.std.specs.Prelude.{not}
use Rattle.std.specs.Int.{to_be_bytes, w32}
use Rattle.std.specs.FinMap.{get}
use Rattle.ct_base.specs.Names.{IsName}
use Rattle.ct_base.specs.laws.Names.{name_length}
use Rattle.ct_bytes.specs.Varints.{varint, text_bytes}
use Rattle.ct_bytes.specs.laws.Varints.{varint_length}
use Rattle.ct_bytes.specs.laws.RowKeys.{length-row_bytes}
use Rattle.ct_entry.specs.declared.kinds.Kind.TheVariants as kind
use Rattle.ct_entry.specs.Keys.{Key, key, IsRow}
use Rattle.ct_entry.specs.Changes.{put_value}
use Rattle.ct_entry.specs.Each.{each, numbered}
use Rattle.tb_table.specs.declared.columns.Target.{Target}
use Rattle.tb_table.specs.Tables.{Table}
use Rattle.tb_table.specs.Rules.{IsTable}
use Rattle.tx_settings.specs.declared.preferences.Prefs.{Prefs}
use Rattle.tx_settings.specs.PrefsBytes.{IsPrefs, prefs_bytes}
use Rattle.tx_settings.specs.laws.Lengths.{prefs_are_short}
use Rattle.ix_kinds.specs.Indextypes.{IndexOf}
use Rattle.ix_docmap.specs.Marks.{is_settled}
use Rattle.ix_docmap.specs.Changes.{mark_changes, map_settle_changes, queue_changes}
use Rattle.ix_context.specs.declared.ranges.KeyRange.{KeyRange}
use Rattle.ix_context.specs.Indexes.{ContextIndex, mark_limit, waiting_rows, texts_in, rows_within}
use Rattle.ix_context.specs.Postings.{IsShortOrNone}
use Rattle.ix_context.specs.Documents.{postings_by}
use Rattle.ix_context.specs.Gathering.{nothing_gathered, with_texts}
use Rattle.ix_rows.specs.Stores.{Tidiness}
use Rattle.ix_context.specs.Places.{IsPlace, AtStart, no_place, end_bytes}
use Rattle.ix_context.specs.Spelling.{index_bytes, after_table}
use Rattle.ix_context.specs.Changes.{mark_each_changes, settle_each_changes, postings_changes}
use Rattle.ix_context.specs.Contexts.{IsContext, context_entry, context_synced, context_sync_changes, new_context, context_create_changes}
use Rattle.ix_context.specs.laws.Places.{length-place_le}
pub use Rattle.ix_context.specs.laws.IndexChanges.{IsIndexChange, AreIndexChanges, are_changes, all_of_context, index_changes-append}
use Rattle.ix_context.specs.laws.Gathered.{gathered_postings}
use Rattle.ix_context.specs.laws.GatheredRows.{none_gathered, grown_texts, index_changes_gathered}
use Rattle.ix_context.specs.laws.Settling.{EachRow}
use Rattle.ix_context.specs.laws.Texts.{texts_short}
use Rattle.ix_context.specs.laws.ContextSyncs.{rows_wait}
use Rattle.ix_context.specs.laws.ContextCreates.{no_marks, rows_free}

-- changes for each of some rows with their documents
pub index_changes-each : (changes : ℕ × ℤ → List (Key × Option (List ℕ)))
    → ((d : ℕ) (r : ℤ) → d < 2 ^ 32 → IsRow r → AreIndexChanges (changes (d, r))) → (rows : List ℤ) (d : ℕ) → d + length rows ≤ 2 ^ 32
    → EachRow IsRow rows → AreIndexChanges (each changes (numbered d rows))
index_changes-each changes one [] d few are = tt
index_changes-each changes one (r ∷ rs) d few are =
    index_changes-append (changes (d, r)) (each changes (numbered (d + 1) rs)) (one d r (omega arith) are.0) (index_changes-each changes one rs (d + 1) (omega arith) are.1)

-- ---- values

pub length-entry_le : (t : List ℕ) (c : ℕ) (p : Prefs) (n : ℕ) (tidiness : Tidiness) (place : List ℕ) → IsName t → IsPrefs p → IsPlace place → length (index_bytes t c p n tidiness place) ≤ 50 * 2 ^ 20 + 302
length-entry_le t c p n tidiness place name are resumes =
    let prefix = length-append (text_bytes t) (after_table c p n (end_bytes tidiness place)) in
    let text = length-append (varint (length t)) t in
    let count = varint_length (length t) in
    let short = (name_length t name).1 in
    let prefs = prefs_are_short p are in
    let rest = length-append (prefs_bytes p) (0 ∷ (to_be_bytes w32 n ++ end_bytes tidiness place)) in
    let end = length-place_le place resumes in
    omega (arith, prefix, text, count, short, prefs, rest, end)

-- ---- notes, synchronisations, new indexes

pub index_changes_note : (i : List ℕ) (r : ℤ) → IsName i → IsRow r → AreIndexChanges (queue_changes i r)
index_changes_note i r name row = (record { key = record { owner = name; part = (r, row, refl) }; of = refl; bounded = omega arith }, tt)

index_put : (i : List ℕ) (t : List ℕ) (c : ℕ) (p : Prefs) (n : ℕ) (tidiness : Tidiness) (place : List ℕ) → IsName i → IsName t → IsPrefs p → IsPlace place
    → IsIndexChange (put_value (key kind.Indexes i []) (index_bytes t c p n tidiness place))
index_put i t c p n tidiness place name table are resumes =
    record { key = record { owner = name; part = refl }; of = refl; bounded = let long = length-entry_le t c p n tidiness place table are resumes in omega (arith, long) }

each_row : (P : ℤ → Type 0) (rows : List ℤ) → EachRow (λ s. IsRow s × P s) rows → EachRow IsRow rows
each_row P [] each = tt
each_row P (r ∷ rs) each = (each.0.0, each_row P rs each.1)

-- a row that becomes a document, and one that waited
marked_row : (i : List ℕ) (d : ℕ) (r : ℤ) → IsName i → d < 2 ^ 32 → IsRow r → AreIndexChanges (mark_changes i d r)
marked_row i d r name doc row = (
  record { key = record { owner = name; part = (d, doc, refl) }; of = refl; bounded = let eight = length-row_bytes r in omega (arith, eight) },
  (record { key = record { owner = name; part = (r, row, refl) }; of = refl; bounded = omega arith }, tt),
)

settled_row : (i : List ℕ) (d : ℕ) (r : ℤ) → IsName i → d < 2 ^ 32 → IsRow r → AreIndexChanges (map_settle_changes i (d, r))
settled_row i d r name doc row = (record { key = record { owner = name; part = (r, row, refl) }; of = refl; bounded = tt }, marked_row i d r name doc row)

postings_are : (p : Prefs) (i : List ℕ) (text : ℤ → Option (List ℕ)) (given : ℕ) (rows : List ℤ) → IsPrefs p → IsName i → ((r : ℤ) → IsShortOrNone (text r)) → given + length rows < 2 ^ 32
    → AreIndexChanges (postings_changes i (postings_by p text) (given + 1) rows)
postings_are p i text given rows are name short room =
    subst AreIndexChanges (gathered_postings p text i given rows room) (index_changes_gathered i name (with_texts p text nothing_gathered (numbered (given + 1) rows)) (grown_texts p are text short (given + 1) rows (omega (arith, room)) nothing_gathered none_gathered))

pub index_changes_sync : (t : Table) (i : List ℕ) (x : IndexOf ContextIndex) (place : List ℕ) → IsTable t → IsName i → IsName x.table → IsPrefs x.prefs → IsPlace place → IsContext t x
    → x.body.part.given + length (waiting_rows x.body.marks) ≤ mark_limit → AreIndexChanges (context_sync_changes i x place (texts_in t x.column) (waiting_rows x.body.marks))
index_changes_sync t i x place is_t name table prefs resumes rules room =
    go (waiting_rows x.body.marks) (each_row (λ s. not (is_settled (get x.body.marks s)) ≡ true) (waiting_rows x.body.marks) (rows_wait t x is_t rules)) room
  where
    go : (rows : List ℤ) → EachRow IsRow rows → x.body.part.given + length rows ≤ mark_limit → AreIndexChanges (context_sync_changes i x place (texts_in t x.column) rows)
    go [] rows_are room = tt
    go (r ∷ rs) rows_are room =
        let y : IndexOf ContextIndex = record x { body = context_synced x.body } in
        let entry = put_value (key kind.Indexes i []) (context_entry y place) ∷ [] in
        let postings = postings_changes i (postings_by x.prefs (texts_in t x.column)) (x.body.part.given + 1) (r ∷ rs) in
        index_changes-append (settle_each_changes i (x.body.part.given + 1) (r ∷ rs) ++ postings) entry
        (index_changes-append (settle_each_changes i (x.body.part.given + 1) (r ∷ rs)) postings
        (index_changes-each (map_settle_changes i) (λ d s doc row. settled_row i d s name doc row) (r ∷ rs) (x.body.part.given + 1) (omega arith) rows_are)
        (postings_are x.prefs i (texts_in t x.column) x.body.part.given (r ∷ rs) prefs name (texts_short t is_t x.column) (omega arith)))
        (index_put i x.table x.column x.prefs (y.body.part.given + 1) y.body.part.tidiness place name table prefs resumes, tt)

pub index_changes_create : (t : Table) (i : List ℕ) (target : Target) (prefs : Prefs) (range : KeyRange) → IsTable t → IsName i → IsName target.table → IsPrefs prefs
    → length (rows_within t range) ≤ mark_limit → AreIndexChanges (context_create_changes t i target prefs range)
index_changes_create t i target prefs range is_t name table prefs_are room = (
  index_put i target.table target.column prefs ((new_context t range).part.given + 1) (new_context t range).part.tidiness no_place name table prefs_are (AtStart refl),
  index_changes-append (mark_each_changes i 1 (rows_within t range)) (postings_changes i (postings_by prefs (texts_in t target.column)) 1 (rows_within t range))
      (index_changes-each (λ (n : ℕ × ℤ). mark_changes i n.0 n.1) (λ d r doc row. marked_row i d r name doc row) (rows_within t range) 1 (omega arith)
      (each_row (λ s. not (is_settled (no_marks s)) ≡ true) (rows_within t range) (rows_free t is_t range)))
      (postings_are prefs i (texts_in t target.column) 0 (rows_within t range) prefs_are name (texts_short t is_t target.column) (omega arith)),
)
