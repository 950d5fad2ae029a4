-- What the entries of a CONTEXT index are read as: what it has.
use Rattle.std.proofs.Common.{◌≡◌, ℕ, ℤ, true, false, zero, suc, ◌+◌, ◌<◌, ◌^◌, List, [], ◌∷◌, ◌++◌, length, map, take, drop, Option, Some, None, refl, sym, ap, ◌∙◌, arith}
use Rattle.std.specs.Prelude.{is_some}
use Rattle.std.specs.Option.{option_and_then}
use Rattle.std.specs.Int.{to_be_bytes, w32}
use Rattle.std.specs.Ordering.{int_cmp}
use Rattle.std.specs.FinMap.{get, entries}
use Rattle.std.proofs.lemmas.Option.{same_Some}
use Rattle.ct_base.specs.declared.lists.Value.{Value}
use Rattle.ct_base.specs.laws.Lists.{cons_parts}
use Rattle.ct_bytes.specs.Varints.{text_bytes}
use Rattle.ct_bytes.specs.laws.Varints.{text_apart}
use Rattle.ct_bytes.specs.laws.Numbers.{four_bytes_one}
use Rattle.ct_keep.specs.Content.{Content}
use Rattle.ct_entry.specs.declared.kinds.Kind.TheVariants as kind
use Rattle.ct_entry.specs.Keys.{key, at, text_part, IsRow}
use Rattle.ct_entry.specs.Listings.{rows_under}
use Rattle.ct_entry.specs.laws.Maps.{entries-none}
use Rattle.ct_entry.specs.laws.Rows.{rows_listed}
use Rattle.tb_table.specs.declared.columns.Column.{Column}
use Rattle.tb_table.specs.declared.columns.Target.{Target}
use Rattle.tb_table.specs.Tables.{Table, Tables, row_keys, keys_in, text_in_column}
use Rattle.tb_table.specs.Rules.{AreTables}
use Rattle.tb_table.specs.Readings.{SpellsText}
use Rattle.tb_table.specs.laws.Reading.{text_read}
use Rattle.ix_docmap.specs.Marks.{Mark, queued}
use Rattle.tx_settings.specs.declared.preferences.Prefs.{Prefs}
use Rattle.tx_settings.specs.PrefsBytes.{IsPrefs}
use Rattle.tx_settings.specs.laws.MadeAgain.{prefs_apart}
use Rattle.ix_kinds.specs.Rows.{table_or_none, table_at}
use Rattle.ix_kinds.specs.Targets.{HasTextAt, IsTarget}
use Rattle.ix_kinds.specs.Indextypes.{IndexOf}
use Rattle.ix_kinds.specs.laws.Tables.{row_of_table, table_is}
use Rattle.ix_context.specs.declared.entries.IndexEntry.{IndexEntry}
use Rattle.ix_context.specs.Indexes.{ContextIndex, in_queue, waiting_rows, target_text}
use Rattle.ix_rows.specs.Stores.{Tidiness}
use Rattle.ix_context.specs.Places.{IsPlaceRead, tidiness_byte, tidiness_of, place_bytes, end_bytes}
use Rattle.ix_context.specs.Spelling.{index_bytes, after_table, SpellsIndex}
use Rattle.ix_context.specs.Contents.{HoldsTables, HoldsContext, target_of}
use Rattle.ix_context.specs.laws.Bodies.{tidiness_one}
use Rattle.ix_context.specs.laws.ContextSyncs.{mark_is_row}

-- ---- the entry of the index

-- a column of texts is one of at most 16
text_at_few : (cs : List Column) (place : ℕ) → HasTextAt cs place → place < length cs
text_at_few [] place has = let wrong : false ≡ true = has in cc
text_at_few (c ∷ cs) zero has = omega arith
text_at_few (c ∷ cs) (suc place) has = let rest = text_at_few cs place has in omega (arith, rest)

pub column_few : (ts : Tables) → AreTables ts → (t : List ℕ) (column : ℕ) → IsTarget ts t column → column < 16
column_few ts are t column is =
    let few = (are.each t is.table is.there).columns.few in
    let place = text_at_few is.table.columns column is.texts in
    omega (arith, few, place)

-- no other target, preferences, document, tidiness and place have the same bytes
pub index_bytes_one : (t u : List ℕ) (c d : ℕ) (p q : Prefs) (n k : ℕ) (a b : Tidiness) (v w : List ℕ) → IsPrefs p → IsPrefs q → n < 2 ^ 32 → k < 2 ^ 32
    → index_bytes t c p n a v ≡ index_bytes u d q k b w → (t ≡ u) × (c ≡ d) × (p ≡ q) × (n ≡ k) × (a ≡ b) × (v ≡ w)
index_bytes_one t u c d p q n k a b v w is are small small' e =
    let tables = text_apart t u (after_table c p n (end_bytes a v)) (after_table d q k (end_bytes b w)) (cons_parts 1 1 (text_bytes t ++ after_table c p n (end_bytes a v)) (text_bytes u ++ after_table d q k (end_bytes b w)) e).1 in
    let columns = cons_parts c d _ _ tables.1 in
    let prefs = prefs_apart p q (0 ∷ (to_be_bytes w32 n ++ end_bytes a v)) (0 ∷ (to_be_bytes w32 k ++ end_bytes b w)) is are (cons_parts 0 0 _ _ columns.1).1 in
    let next : to_be_bytes w32 n ≡ to_be_bytes w32 k = ap (λ (l : List ℕ). take 4 (drop 1 l)) prefs.1 in
    let end : end_bytes a v ≡ end_bytes b w = ap (λ (l : List ℕ). drop 5 l) prefs.1 in
    let ends = cons_parts (tidiness_byte a) (tidiness_byte b) v w end in
    (tables.0, columns.0, prefs.0, four_bytes_one n k small small' next, tidiness_one a b ends.0, ends.1)

-- ---- what is read of an index

-- an index is read as its target, its preferences, its next document, how tidy it is, and its place
pub record IsReadAs (x : IndexOf ContextIndex) (ends : List ℕ) (e : IndexEntry) : Type 0 where
  pub target : e.target ≡ target_of x
  pub prefs : e.prefs ≡ x.prefs
  pub next : e.next_document ≡ x.body.part.given + 1
  pub tidiness : tidiness_of e.tidiness ≡ x.body.part.tidiness
  pub place : place_bytes e.place ≡ ends
  pub resumes : IsPlaceRead e.place

pub index_read : (m : Content) (ts : Tables) (i : List ℕ) (x : IndexOf ContextIndex) → (holds : HoldsContext m ts i x) → (found : Option IndexEntry)
    → SpellsIndex (at m (key kind.Indexes i [])) found → (e : IndexEntry) × (found ≡ Some e) × IsReadAs x holds.entry.place e
index_read m ts i x holds found spelt = go found spelt
  where
    small : x.body.part.given + 1 < 2 ^ 32
    small = let few = holds.rules.numbers in omega (arith, few)

    go : (found : Option IndexEntry) → SpellsIndex (at m (key kind.Indexes i [])) found → (e : IndexEntry) × (found ≡ Some e) × IsReadAs x holds.entry.place e
    go None none =
        let few = column_few ts holds.tables.rules x.table x.column holds.target in
        absurd (none x.table x.column x.prefs (x.body.part.given + 1) x.body.part.tidiness holds.entry.place (holds.tables.rules.names x.table holds.target.table holds.target.there) (omega (arith, few)) holds.prefs small holds.entry.resumes holds.entry.whole)
    go (Some e) read =
        let one = index_bytes_one e.target.table x.table e.target.column x.column e.prefs x.prefs e.next_document (x.body.part.given + 1) (tidiness_of e.tidiness) x.body.part.tidiness (place_bytes e.place) holds.entry.place read.2 holds.prefs read.3 small
        (same_Some _ _ (sym read.5 ∙ holds.entry.whole)) in
        (e, refl, record { target = λ j. record { table = one.0 j; column = one.1 j }; prefs = one.2; next = one.3; tidiness = one.4; place = one.5; resumes = read.4 })

-- where there is no entry, nothing is read
pub no_index_read : (entry : Option (List ℕ)) (found : Option IndexEntry) → entry ≡ None → SpellsIndex entry found → found ≡ None
no_index_read entry None none spelt = refl
no_index_read entry (Some e) none read = let wrong : None ≡ Some (index_bytes e.target.table e.target.column e.prefs e.next_document (tidiness_of e.tidiness) (place_bytes e.place)) = sym none ∙ read.5 in cc

-- ---- the queue

-- the rows in the queue are those that wait
pub pending_read : (m : Content) (ts : Tables) (i : List ℕ) (x : IndexOf ContextIndex) → HoldsContext m ts i x → rows_under kind.Pending i m ≡ waiting_rows x.body.marks
pending_read m ts i x holds =
    rows_listed in_queue m kind.Pending i x.body.marks holds.tables.only (λ q p. p)
    (λ r o e. mark_is_row (table_at ts x.table) x (table_is ts x.table holds.target.table holds.tables.rules holds.target.there) holds.rules r (ap is_some e))
    (λ r row. holds.stands.documents.queue r row ∙ waits (get x.body.marks r))
  where
    waits : (o : Option (Mark (Unit {0}))) → queued o ≡ option_and_then in_queue o
    waits None = refl
    waits (Some m) = refl

-- ---- rows and texts

-- the keys of a table's rows
pub keys_of_table : (ts : Tables) (t : List ℕ) → row_keys ts t ≡ map (λ e. e.0) (entries (table_at ts t).rows)
keys_of_table ts t = go (get ts t)
  where
    go : (o : Option Table) → keys_in o ≡ map (λ e. e.0) (entries (table_or_none o).rows)
    go None = sym (ap (λ (es : List (ℤ × List Value)). map (λ e. e.0) es) (entries-none int_cmp))
    go (Some x) = refl

-- the text that is read is that of the row in the column
pub target_read : (m : Content) (ts : Tables) → HoldsTables m ts → (target : Target) (r : ℤ) → target.column < 256 → IsRow r
    → (found : Option (List ℕ)) → SpellsText (at m (key kind.RowTexts target.table (text_part target.column r))) found
    → found ≡ target_text ts target r
target_read m ts holds target r few row found spelt =
    text_read (at m) ts holds.stand holds.rules target.table target.column r few row found spelt
    ∙ sym (ap (option_and_then (λ (vs : List Value). text_in_column vs target.column)) (row_of_table ts target.table r))
