-- The state after a new row.
use Rattle.std.proofs.Common.{◌≡◌, ℕ, ℤ, ◌<◌, ◌≤◌, Bool, true, false, cond, List, [], ◌∷◌, ◌++◌, length, map, Option, Some, None, refl, sym, ap, subst, ◌∙◌, inl}
use Rattle.std.specs.Prelude.{◌&&◌, is_some}
use Rattle.std.specs.Option.{option_map}
use Rattle.std.specs.FinMap.{get, insert, entries}
use Rattle.std.proofs.lemmas.Map.Made.{is_some-lookup}
use Rattle.ct_base.specs.declared.lists.Value.{Value}
use Rattle.ct_keep.specs.Content.{Content, after}
use Rattle.ct_entry.specs.Keys.{Key, at, same_list, IsRow}
use Rattle.ct_entry.specs.laws.Keys.{list_from_same}
use Rattle.ct_entry.specs.Maps.{Names}
use Rattle.ct_keep.specs.laws.FoundKeys.{none_below}
use Rattle.ct_entry.specs.Listings.{key_order}
use Rattle.std.proofs.lemmas.Bool.{and_parts}
use Rattle.ct_keep.specs.laws.RisingKeys.{below, rises}
use Rattle.ct_entry.specs.Each.{each, is_any_of}
use Rattle.ct_entry.specs.Changes.{spell, view, AllPut, AreChanges}
use Rattle.ct_entry.specs.laws.Changes.{at_view, only-after, view-append, are-append}
use Rattle.tb_table.specs.Tables.{Table, Tables, numbers_of, texts_of, row_at, row_in, with_row}
use Rattle.tb_table.specs.Spelling.{TablesStand, insert_changes}
use Rattle.tb_table.specs.Rules.{AreTables, FitColumns, others}
use Rattle.tb_table.specs.laws.Changes.{is_of_tables, all_insert, stand_insert, tables_frame, get-with_row, columns-with_row, row_at-with_row}
use Rattle.tb_table.specs.laws.Rules.{insert_keeps}
use Rattle.tb_table.specs.laws.Well.{are_insert, row_places}
use Rattle.db_names.specs.declared.heads.IndexHead.{IndexHead}
use Rattle.db_names.specs.Promises.{head_of, heads_of}
use Rattle.db_names.specs.laws.Heads.{heads_at, heads_rise}
use Rattle.db_names.specs.laws.Pairs.{lookup-find}
use Rattle.tx_prefs.specs.Spelling.{PreferencesStand}
use Rattle.tx_prefs.specs.laws.Changes.{preferences_frame, other_kinds}
use Rattle.th_store.specs.Spelling.{ThesauriStand}
use Rattle.th_store.specs.laws.Changes.{others_leave_thesauri}
use Rattle.db_state.specs.Entries.{Becomes, HaveSamePostings}
use Rattle.db_change.specs.laws.NotedDocuments.{puts_each, row_puts}
use Rattle.db_state.specs.laws.SamePostings.{NoDocument, becomes_by, same_beside, same_by_notes, same_on}
use Rattle.db_state.specs.laws.ShortRows.{rows_frame}
use Rattle.db_state.specs.States.{StoreState, IsState, StandsForState, HasShortRows, is_view, index_limit}
use Rattle.db_change.specs.Inserting.{coming, with_new_row}
use Rattle.db_change.specs.Noting.{names_on, noted_on}
use Rattle.db_state.specs.laws.Heads.{store_heads, get-heads, store_head}
use Rattle.db_state.specs.laws.Kinds.{tables_no_noted, noted_rows}
use Rattle.ix_kinds.specs.Rows.{RowChange, table_at, row_change}
use Rattle.ix_kinds.specs.Statements.{AreDistinct, every, is_on, AreIndexesOn, row_changes_at}
use Rattle.ix_kinds.specs.RowSteps.{DifferInRow, AreUnseen, IndexesHold, KeepEntries}
use Rattle.ix_kinds.specs.laws.Standing.{indexes_frame}
use Rattle.ix_kinds.specs.laws.Tables.{differs, row_now}
use Rattle.ix_kinds.specs.laws.Rows.{row_stands, row_keeps}
use Rattle.ix_indexes.specs.Indexes.{Index, kinds, IndexesStand}
use Rattle.ix_indexes.specs.Noting.{Noted, all_noted_changes}
use Rattle.db_change.specs.laws.IndexCounts.{few_after_row}
use Rattle.db_change.specs.laws.NewTables.{rows_tables, apart}
use Rattle.ix_indexes.specs.laws.Indexes.{kinds_laws}
use Rattle.ix_indexes.specs.laws.Noting.{is_noted, notes_are_changes, notes_behind, notes_of}
use Rattle.db_state.specs.laws.NoteKeys.{notes_are_keys}

-- ---- the indexes on a table

on_table : (t : List ℕ) (o : Option Index) → is_some (head_of t (option_map store_head o)) ≡ is_on kinds (every kinds) t o
on_table t None = refl
on_table t (Some x) = go (same_list x.table t)
  where
    go : (b : Bool) → is_some (cond b (Some (store_head x)) None) ≡ (b && true)
    go true = refl
    go false = refl

pub names_listed : (xs : Names Index) (t i : List ℕ) → is_any_of i (names_on xs t) ≡ is_on kinds (every kinds) t (get xs i)
names_listed xs t i =
    sym (is_some-lookup (same_list i) (heads_of t (store_heads xs)))
    ∙ ap is_some (heads_at t (store_heads xs) i)
    ∙ ap (λ (o : Option IndexHead). is_some (head_of t o)) (get-heads xs i)
    ∙ on_table t (get xs i)

-- no name stands twice
distinct : (es : List (List ℕ × IndexHead)) → rises key_order es ≡ true → AreDistinct (map (λ e. e.0) es)
distinct [] up = tt
distinct (e ∷ es) up =
    let b = and_parts (below key_order e.0 es) (rises key_order es) up in (
      sym (is_some-lookup (same_list e.0) es) ∙ ap is_some (lookup-find e.0 es ∙ none_below key_order e.0 es b.0),
      distinct es b.1,
    )

pub names_on_table : (xs : Names Index) (t : List ℕ) → AreIndexesOn kinds (every kinds) xs t (names_on xs t)
names_on_table xs t = record { distinct = distinct (heads_of t (store_heads xs)) (heads_rise t (store_heads xs)); each = names_listed xs t }

-- ---- the state keeps its rules

views_stay : (m : StoreState) (t : List ℕ) (x : Table) (r : ℤ) (vs : List Value) → get m.tables t ≡ Some x → ((q : List ℕ) (y : Table) → get m.tables q ≡ Some y → is_view q ≡ false)
    → (q : List ℕ) (y : Table) → get (with_row m.tables t r vs) q ≡ Some y → is_view q ≡ false
views_stay m t x r vs here views q y is = go (same_list q t) refl (sym (get-with_row m.tables t r vs x here q) ∙ is)
  where
    go : (b : Bool) → same_list q t ≡ b → cond b (Some (record x { rows = insert x.rows r vs })) (get m.tables q) ≡ Some y → is_view q ≡ false
    go true h e = ap is_view (list_from_same q t h) ∙ views t x here
    go false h e = views q y e

-- ---- the tables

differ_in_row : (ts : Tables) (t : List ℕ) (r : ℤ) (vs : List Value) (x : Table) → get ts t ≡ Some x → DifferInRow ts (with_row ts t r vs) t r
differ_in_row ts t r vs x is = differs ts (with_row ts t r vs) t r (Some vs) (λ q. columns-with_row ts t r vs x is q) (λ q s. row_at-with_row ts t r vs x is q s)

has_it : (ts : Tables) (t : List ℕ) (r : ℤ) (vs : List Value) (x : Table) → get ts t ≡ Some x → row_at (with_row ts t r vs) t r ≡ Some vs
has_it ts t r vs x is = row_now ts (with_row ts t r vs) t r (Some vs) (λ q s. row_at-with_row ts t r vs x is q s)

-- no index is passed over
none_unseen : (ts us : Tables) (t : List ℕ) (xs : Names Index) → AreUnseen kinds (every kinds) ts us t xs
none_unseen ts us t xs i y here on h = cc

new_row_state : (m : StoreState) (t : List ℕ) (x : Table) (r : ℤ) (vs : List Value) → get m.tables t ≡ Some x → IsState m → IsRow r
    → FitColumns (others x.columns) vs → length (entries x.rows) < 100000 → IsState (with_new_row m t r vs)
new_row_state m t x r vs is state row fit room = record {
  tables = insert_keeps m.tables t r vs x state.tables is row fit room;
  indexes = row_keeps kinds kinds_laws m.tables (with_row m.tables t r vs) m.indexes t r (every kinds) state.tables (insert_keeps m.tables t r vs x state.tables is row fit room) (differ_in_row m.tables t r vs x is)
      (none_unseen m.tables (with_row m.tables t r vs) t m.indexes) state.indexes;
  views = views_stay m t x r vs is state.views;
  few = λ q. subst (λ (n : ℕ). n ≤ index_limit) (sym (few_after_row (every kinds) t (row_change m.tables (with_row m.tables t r vs) t r) m.indexes q)) (state.few q);
  preferences = state.preferences;
  thesauri = state.thesauri;
}

-- ---- the entries

-- what an INSERT puts into its batch
abbrev pub new_row_changes : (Key → Option (List ℕ)) → List ℕ → ℤ → List Value → List (List ℕ × Noted) → List (Key × Option (List ℕ))
new_row_changes f t r vs es = insert_changes t r (numbers_of vs) (texts_of vs) ++ all_noted_changes f (coming r vs) es

-- a content that stands for a state holds its indexes
pub indexes_hold : (c : Content) (m : StoreState) → StandsForState c m → IndexesHold kinds (at c) m.tables m.indexes
indexes_hold c m stands = record { tables = stands.state.tables; rules = stands.state.indexes; stand = stands.indexes }

module _ (c : Content) (m : StoreState) (t : List ℕ) (x : Table) (r : ℤ) (vs : List Value) (stands : StandsForState c m) (is : get m.tables t ≡ Some x) (none : get x.rows r ≡ None) (row : IsRow r) (fit : FitColumns (others x.columns) vs)
    (room : length (entries x.rows) < 100000) where
  abbrev own : List (Key × Option (List ℕ))
  own = insert_changes t r (numbers_of vs) (texts_of vs)

  abbrev us : Tables
  us = with_row m.tables t r vs

  abbrev change : RowChange
  change = row_change m.tables us t r

  abbrev notes : List (Key × Option (List ℕ))
  notes = all_noted_changes (at c) (coming r vs) (noted_on m.indexes t)

  -- the row is told as it comes
  comes : change ≡ coming r vs
  comes =
      let was : row_at m.tables t r ≡ None = ap (λ (o : Option Table). row_in o r) is ∙ none in
      let now = has_it m.tables t r vs x is in
      λ j. record { row = r; old = was j; new = now j }

  notes_is : each (row_changes_at kinds (at c) m.indexes (table_at m.tables t).columns change) (names_on m.indexes t) ≡ notes
  notes_is =
      notes_are_changes (at c) m.indexes (table_at m.tables t).columns change (names_on m.indexes t)
      ∙ ap (λ (told : RowChange). all_noted_changes (at c) told (noted_on m.indexes t)) comes

  after_are : AreTables us
  after_are = insert_keeps m.tables t r vs x stands.state.tables is row fit room

  differ : DifferInRow m.tables us t r
  differ = differ_in_row m.tables t r vs x is

  -- the row is new, so no index loses its order
  all_keep : KeepEntries kinds (every kinds) t change m.indexes
  all_keep i y there on = inl (ap (λ (o : Option Table). row_in o r) is ∙ none)

  notes_stand : IndexesStand (view notes (view own (at c))) us (with_new_row m t r vs).indexes
  notes_stand =
      subst (λ (ws : List (Key × Option (List ℕ))). IndexesStand (view ws (view own (at c))) us (with_new_row m t r vs).indexes)
      (notes_behind (at c) m.indexes (table_at m.tables t).columns change is_of_tables own (names_on m.indexes t) (all_insert t r (numbers_of vs) (texts_of vs)) apart ∙ notes_is)
      (row_stands kinds kinds_laws (view own (at c)) m.tables us m.indexes t r (every kinds) (names_on m.indexes t) stands.state.tables after_are stands.state.indexes (names_on_table m.indexes t) differ (none_unseen m.tables us t m.indexes) all_keep
      (indexes_frame kinds kinds_laws.alone is_of_tables own (at c) m.tables m.indexes (all_insert t r (numbers_of vs) (texts_of vs)) apart stands.indexes))

  new_row_changes_are : AreChanges (new_row_changes (at c) t r vs (noted_on m.indexes t))
  new_row_changes_are =
      are-append own notes
      (are_insert t r (numbers_of vs) (texts_of vs) (stands.state.tables.names t x is) row (row_places x.columns vs (stands.state.tables.each t x is).columns fit))
      (subst AreChanges notes_is (notes_are_keys (at c) m.tables us m.indexes t r (indexes_hold c m stands) after_are differ row (table_at m.tables t).columns (every kinds) (names_on m.indexes t) (names_on_table m.indexes t)))

  pub new_row_stands : StandsForState (after (spell (new_row_changes (at c) t r vs (noted_on m.indexes t))) c) (with_new_row m t r vs)
  new_row_stands =
      let all = notes_of (at c) (coming r vs) (noted_on m.indexes t) in
      let seen = at_view (own ++ notes) c ∙ view-append own notes (at c) in
      record {
        only = only-after (own ++ notes) c stands.only new_row_changes_are;
        tables = subst (λ (f : Key → Option (List ℕ)). TablesStand f us) (sym seen)
            (tables_frame is_noted notes (view own (at c)) us all tables_no_noted (stand_insert (at c) m.tables t r vs x is none row stands.tables));
        indexes = subst (λ (f : Key → Option (List ℕ)). IndexesStand f us (with_new_row m t r vs).indexes) (sym seen) notes_stand;
        preferences = subst (λ (f : Key → Option (List ℕ)). PreferencesStand f m.preferences) (sym seen) (preferences_frame is_noted notes (view own (at c)) m.preferences all (other_kinds is_noted refl refl refl refl) (preferences_frame is_of_tables own (at c) m.preferences (all_insert t r (numbers_of vs) (texts_of vs)) (other_kinds is_of_tables refl refl refl refl) stands.preferences));
        thesauri = subst (λ (f : Key → Option (List ℕ)). ThesauriStand f m.thesauri) (sym seen)
            (others_leave_thesauri is_noted notes (view own (at c)) m.thesauri all refl refl (others_leave_thesauri is_of_tables own (at c) m.thesauri (all_insert t r (numbers_of vs) (texts_of vs)) refl refl stands.thesauri));
        short_rows = subst HasShortRows (sym seen) (rows_frame is_noted notes (view own (at c)) all noted_rows (rows_frame is_of_tables own (at c) (all_insert t r (numbers_of vs) (texts_of vs)) rows_tables stands.short_rows));
        state = new_row_state m t x r vs is stands.state row fit room;
      }

  -- and the indexes have their rows of postings as before
  pub new_row_becomes : Becomes (with_new_row m t r vs) c (after (spell (new_row_changes (at c) t r vs (noted_on m.indexes t))) c)
  new_row_becomes =
      let n = with_new_row m t r vs in
      becomes_by n (own ++ notes) c new_row_stands
      (subst (HaveSamePostings n (at c)) (sym (view-append own notes (at c)))
      (same_on n (at c) (view own (at c)) (view notes (view own (at c)))
      (same_beside is_of_tables own n (at c) (all_insert t r (numbers_of vs) (texts_of vs)) rows_tables refl refl refl)
      (same_by_notes is_noted notes n (view own (at c)) (notes_of (at c) (coming r vs) (noted_on m.indexes t)) noted_rows refl
      (subst (AllPut NoDocument) notes_is
      (puts_each (row_changes_at kinds (at c) m.indexes (table_at m.tables t).columns change) (λ i. row_puts (at c) (table_at m.tables t).columns change i m.indexes) (names_on m.indexes t))))))
