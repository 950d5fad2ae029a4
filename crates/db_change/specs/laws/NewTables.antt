-- The state after a new table.
use Rattle.std.proofs.Common.{◌≡◌, ℕ, ◌<◌, ◌≤◌, Bool, true, false, cond, List, [], ◌∷◌, length, map, Option, Some, None, refl, sym, ap, subst, ◌∙◌, arith}
use Rattle.std.proofs.lemmas.List.{length-map}
use Rattle.std.specs.Prelude.{◌&&◌, ◌||◌, not, nat_lt, nat_le, is_some}
use Rattle.std.specs.List.{list_any, list_all}
use Rattle.std.specs.FinMap.{get, empty, entries}
use Rattle.std.proofs.lemmas.Bool.{leb-true, leb-false, ltb-false}
use Rattle.ct_base.specs.Names.{IsName}
use Rattle.ct_keep.specs.Content.{Content, after}
use Rattle.ct_entry.specs.declared.kinds.Kind.{Kind}
use Rattle.ct_entry.specs.declared.kinds.Kind.TheVariants as kind
use Rattle.ct_entry.specs.Keys.{Key, at, same_list}
use Rattle.ct_entry.specs.laws.Keys.{list_from_same}
use Rattle.ct_entry.specs.Changes.{spell}
use Rattle.ct_entry.specs.laws.Changes.{at_view, only-after}
use Rattle.tb_table.specs.declared.columns.Column.{Column}
use Rattle.tb_table.specs.Tables.{Table, with_table}
use Rattle.tb_table.specs.Spelling.{TablesStand, table_changes}
use Rattle.tb_table.specs.Rules.{AreColumns, HasAllowedSize, IsKeyFirst, AllColumns, HaveDistinctNames, has_column}
use Rattle.ct_base.specs.Limits.{column_limit, table_limit, text_limit}
use Rattle.tb_table.specs.laws.Changes.{is_of_tables, all_create, stand_create, get-with_table}
use Rattle.tb_table.specs.laws.Rules.{create_keeps}
use Rattle.tb_table.specs.laws.Well.{are_create}
use Rattle.ix_kinds.specs.Standing.{is_of_indexes}
use Rattle.ix_kinds.specs.laws.Standing.{indexes_frame}
use Rattle.ix_kinds.specs.laws.Creates.{table_stands, table_keeps}
use Rattle.ix_indexes.specs.Indexes.{kinds, IndexesStand}
use Rattle.st_parse.specs.declared.statements.ColumnText.{ColumnText}
use Rattle.st_parse.specs.declared.statements.SortText.{SortText}
use Rattle.st_parse.specs.declared.statements.SortText.TheVariants.{Number as NumberText, Varchar2 as Varchar2Text, Clob as ClobText}
use Rattle.std.specs.Option.{unwrap_or}
use Rattle.tb_table.specs.declared.columns.Sort.TheVariants.{Number}
use Rattle.tx_prefs.specs.Spelling.{PreferencesStand}
use Rattle.tx_prefs.specs.laws.Changes.{preferences_frame, other_kinds}
use Rattle.th_store.specs.laws.Changes.{thesauri_unchanged}
use Rattle.db_state.specs.Effects.{whole_count}
use Rattle.db_change.specs.Creating.{is_number_sort, is_key_first, names_differ, is_size, is_sized, all_sized, declared_sort, column_of, with_new_table}
use Rattle.db_state.specs.Entries.{Becomes}
use Rattle.db_state.specs.laws.SamePostings.{becomes_by, same_beside}
use Rattle.db_state.specs.laws.ShortRows.{rows_frame}
use Rattle.db_state.specs.States.{HasShortRows, is_of_rows, StoreState, StandsForState, is_view}
use Rattle.std.proofs.lemmas.Bool.{or_parts as either, and_parts as both, not-true as not_true}
use Rattle.ct_base.specs.laws.Options.{no_value as no_some}
use Rattle.ix_indexes.specs.laws.Indexes.{kinds_laws}

-- No check of a new table holds.
pub record IsFreeTable (m : StoreState) (t : List ℕ) (columns : List ColumnText) : Type 0 where
  pub free : (is_some (get m.tables t) || is_view t) ≡ false
  pub formed : (is_key_first columns && names_differ columns) ≡ true
  pub sized : all_sized columns ≡ true
  pub few : (nat_lt column_limit (length columns) || nat_le table_limit (length (entries m.tables))) ≡ false

-- ---- the state keeps its rules

views_stay : (m : StoreState) (t : List ℕ) (columns : List Column) → is_view t ≡ false → ((q : List ℕ) (x : Table) → get m.tables q ≡ Some x → is_view q ≡ false)
    → (q : List ℕ) (x : Table) → get (with_table m.tables t columns) q ≡ Some x → is_view q ≡ false
views_stay m t columns free views q x is = go (same_list q t) refl (sym (get-with_table m.tables t columns q) ∙ is)
  where
    go : (b : Bool) → same_list q t ≡ b → cond b (Some (record { columns = columns; rows = empty })) (get m.tables q) ≡ Some x → is_view q ≡ false
    go true h e = ap is_view (list_from_same q t h) ∙ free
    go false h e = views q x e

-- ---- the entries

pub rows_tables : (k : Kind) → is_of_rows k ≡ true → is_of_tables k ≡ false
rows_tables kind.Tables h = cc
rows_tables kind.RowNumbers h = cc
rows_tables kind.RowTexts h = cc
rows_tables k h = refl

pub apart : (k : Kind) → is_of_indexes k ≡ true → is_of_tables k ≡ false
apart kind.Tables h = cc
apart kind.RowNumbers h = cc
apart kind.RowTexts h = cc
apart k h = refl

pub new_table_stands : (c : Content) (m : StoreState) (t : List ℕ) (columns : List Column) → StandsForState c m → get m.tables t ≡ None
    → is_view t ≡ false → IsName t → AreColumns columns → length (entries m.tables) < 64
    → StandsForState (after (spell (table_changes t columns)) c) (record m { tables = with_table m.tables t columns })
new_table_stands c m t columns stands none free name are few =
    let ws = table_changes t columns in
    record {
      only = only-after ws c stands.only (are_create t columns name);
      tables = subst (λ (f : Key → Option (List ℕ)). TablesStand f (with_table m.tables t columns)) (sym (at_view ws c)) (stand_create (at c) m.tables t columns none stands.tables);
      indexes = subst (λ (f : Key → Option (List ℕ)). IndexesStand f (with_table m.tables t columns) m.indexes) (sym (at_view ws c))
          (indexes_frame kinds kinds_laws.alone is_of_tables ws (at c) (with_table m.tables t columns) m.indexes (all_create t columns) apart
          (table_stands kinds kinds_laws (at c) m.tables m.indexes t columns none stands.state.indexes stands.indexes));
      preferences = subst (λ (f : Key → Option (List ℕ)). PreferencesStand f m.preferences) (sym (at_view ws c)) (preferences_frame is_of_tables ws (at c) m.preferences (all_create t columns) (other_kinds is_of_tables refl refl refl refl) stands.preferences);
      thesauri = thesauri_unchanged is_of_tables ws c m.thesauri (all_create t columns) refl refl stands.thesauri;
      short_rows = subst HasShortRows (sym (at_view ws c)) (rows_frame is_of_tables ws (at c) (all_create t columns) rows_tables stands.short_rows);
      state = record {
        tables = create_keeps m.tables t columns stands.state.tables name are few;
        indexes = table_keeps kinds kinds_laws m.tables m.indexes t columns none stands.state.indexes;
        views = views_stay m t columns free stands.state.views;
        few = stands.state.few;
        preferences = stands.state.preferences;
        thesauri = stands.state.thesauri;
      };
    }

-- ---- columns that pass the checks

is_sort : (s : SortText) → is_sized s ≡ true → HasAllowedSize (declared_sort s)
is_sort NumberText h = tt
is_sort (Varchar2Text size) h = go (whole_count size) h
  where
    go : (o : Option ℕ) → is_size o ≡ true → (1 ≤ unwrap_or o 0) × (unwrap_or o 0 ≤ text_limit)
    go None h = cc
    go (Some n) h = let b = both (nat_le 1 n) (nat_le n text_limit) h in (leb-true 1 n b.0, leb-true n text_limit b.1)
is_sort ClobText h = tt

names_apart : (name : List ℕ) (cs : List ColumnText) → has_column name (map column_of cs) ≡ list_any (λ (d : ColumnText). same_list name d.name) cs
names_apart name [] = refl
names_apart name (c ∷ cs) = go (same_list name c.name) (names_apart name cs)
  where
    go : (b : Bool) → has_column name (map column_of cs) ≡ list_any (λ (d : ColumnText). same_list name d.name) cs
        → cond b true (has_column name (map column_of cs)) ≡ (b || list_any (λ (d : ColumnText). same_list name d.name) cs)
    go true rest = refl
    go false rest = rest

-- the columns' names are names
abbrev pub AllNamed : List ColumnText → Type 0
AllNamed [] = Unit {0}
AllNamed (c ∷ cs) = IsName c.name × AllNamed cs

all_columns : (cs : List ColumnText) → AllNamed cs → all_sized cs ≡ true → AllColumns (map column_of cs)
all_columns [] named h = tt
all_columns (c ∷ cs) named h = let b = both (is_sized c.sort) (all_sized cs) h in (named.0, is_sort c.sort b.0, all_columns cs named.1 b.1)

apart_columns : (cs : List ColumnText) → names_differ cs ≡ true → HaveDistinctNames (map column_of cs)
apart_columns [] h = tt
apart_columns (c ∷ cs) h =
    let b = both (not (list_any (λ (d : ColumnText). same_list c.name d.name) cs)) (names_differ cs) h in
    (names_apart c.name cs ∙ not_true (list_any (λ (d : ColumnText). same_list c.name d.name) cs) b.0, apart_columns cs b.1)

key_first : (cs : List ColumnText) → is_key_first cs ≡ true → IsKeyFirst (map column_of cs)
key_first [] h = cc
key_first (c ∷ cs) h = number c.sort (both (is_number_sort c.sort) c.primary (both (is_number_sort c.sort && c.primary) (list_all (λ (d : ColumnText). not d.primary) cs) h).0).0
  where
    number : (s : SortText) → is_number_sort s ≡ true → declared_sort s ≡ Number
    number NumberText h = refl
    number (Varchar2Text size) h = cc
    number ClobText h = cc

pub columns_pass : (m : StoreState) (t : List ℕ) (cs : List ColumnText) → AllNamed cs → IsFreeTable m t cs → AreColumns (map column_of cs)
columns_pass m t cs named free =
    let formed = both (is_key_first cs) (names_differ cs) free.formed in
    let few = either (nat_lt column_limit (length cs)) (nat_le table_limit (length (entries m.tables))) free.few in
    record {
      each = all_columns cs named free.sized;
      key = key_first cs formed.0;
      apart = apart_columns cs formed.1;
      few = let small = ltb-false 16 (length cs) few.0 in let same = length-map cs column_of in omega (arith, small, same);
    }

-- the state after CREATE TABLE
pub created_table_stands : (c : Content) (m : StoreState) (t : List ℕ) (cs : List ColumnText) → StandsForState c m → IsName t → AllNamed cs
    → IsFreeTable m t cs → StandsForState (after (spell (table_changes t (map column_of cs))) c) (with_new_table m t cs)
created_table_stands c m t cs stands name named free =
    let there = either (is_some (get m.tables t)) (is_view t) free.free in
    let few = either (nat_lt column_limit (length cs)) (nat_le table_limit (length (entries m.tables))) free.few in
    new_table_stands c m t (map column_of cs) stands (no_some (get m.tables t) there.0) there.1 name (columns_pass m t cs named free) (leb-false 64 (length (entries m.tables)) few.1)

-- and indexes are as before
pub created_table_becomes : (c : Content) (m : StoreState) (t : List ℕ) (cs : List ColumnText) → StandsForState c m → IsName t → AllNamed cs
    → IsFreeTable m t cs → Becomes (with_new_table m t cs) c (after (spell (table_changes t (map column_of cs))) c)
created_table_becomes c m t cs stands name named free =
    becomes_by (with_new_table m t cs) (table_changes t (map column_of cs)) c (created_table_stands c m t cs stands name named free)
    (same_beside is_of_tables (table_changes t (map column_of cs)) (with_new_table m t cs) (at c) (all_create t (map column_of cs)) rows_tables refl refl refl)
