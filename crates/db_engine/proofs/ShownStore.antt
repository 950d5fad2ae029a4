-- The store that docs/STORE.md shows stands for its state, by the laws of the five statements that lead there.
use Rattle.std.proofs.Common.{◌≡◌, ℕ, ℤ, pos, negsuc, ◌<◌, ◌+◌, Bool, true, false, inl, List, [], ◌∷◌, ◌++◌, length, map, Option, Some, None, refl, sym, ap, subst, ◌∙◌, arith}
use Rattle.std.specs.Prelude.{◌||◌, not, nat_le, nat_lt, is_some, filter, codes, sum_by, T}
use Rattle.std.specs.List.{list_any}
use Rattle.std.specs.Int.{to_be_bytes, w32}
use Rattle.std.specs.Option.{option_and_then, option_map}
use Rattle.std.specs.declared.cmp.Ordering.{Ordering}
use Rattle.std.specs.Ordering.{nat_cmp, int_cmp}
use Rattle.std.specs.Cmp.{IsTotalOrder}
use Rattle.std.specs.Cmp.Lexicographic.{slice_cmp}
use Rattle.std.specs.FinMap.{FinMap, get, insert, empty, entries, find, put as put_pair, is_sorted, from_sorted, from_entries, get-empty, get-from_sorted, entries-from_sorted, entries-insert, same_entries_map}
use Rattle.std.proofs.lemmas.Cmp.{nat_list_cmp_total, int_cmp_total}
use lib.Utf8.{encode}
use Rattle.ct_base.specs.Limits.{column_limit, row_limit, table_limit}
use Rattle.ct_base.specs.Names.{IsName}
use Rattle.ct_base.specs.declared.lists.Value.{Value}
use Rattle.ct_base.specs.declared.lists.Value.TheVariants.{Number, Text}
use Rattle.ct_bytes.specs.RowKeys.{row_bytes}
use Rattle.ct_bytes.specs.Varints.{varint}
use Rattle.ct_keep.specs.Content.{Content, after, entry_weight, weight}
use Rattle.ct_keep.specs.laws.Content.{applied, entries-after}
use Rattle.ct_entry.specs.declared.kinds.Kind.{Kind}
use Rattle.ct_entry.specs.declared.kinds.Kind.TheVariants as kind
use Rattle.ct_entry.specs.Keys.{key, at, same_list, row_part, document_part, IsRow}
use Rattle.ct_entry.specs.Maps.{Names, Rows, altered}
use Rattle.ct_entry.specs.Changes.{KeyChange, spell, put_value, drop_key}
use Rattle.ct_entry.specs.Listings.{key_order, keys_where}
use Rattle.ct_entry.specs.laws.Changes.{at-after}
use Rattle.ct_entry.specs.laws.Owners.{key_order_total}
use Rattle.tb_table.specs.Tables.{Table, Tables, docs_columns, row_in, row_at, text_in_column, with_table, with_row}
use Rattle.tb_table.specs.Spelling.{table_changes}
use Rattle.tb_table.specs.Rules.{FitColumns, others}
use Rattle.tb_table.specs.laws.Changes.{row_at-with_row}
use Rattle.tx_document.specs.declared.entries.Entry.{Entry}
use Rattle.tx_settings.specs.laws.Settable.{defaults_can_be_set}
use Rattle.tx_settings.specs.Defaults.{default_prefs}
use Rattle.tx_document.specs.Documents.{pair}
use Rattle.tx_document.specs.Entries.{entry}
use Rattle.tx_settings.specs.PrefsBytes.{IsPrefs}
use Rattle.ix_rows.specs.Stores.{Untidy}
use Rattle.ix_docmap.specs.Marks.{Mark, Pending, Settled}
use Rattle.ix_kinds.specs.Rows.{RowChange, table_or_none, table_at, row_change}
use Rattle.ix_kinds.specs.Statements.{bytes_behind, every, after_row_on, indexes_after_row, index_after_sync, indexes_after_sync, new_index, place_of, with_index}
use Rattle.ix_kinds.specs.laws.Tables.{row_now}
use Rattle.ix_context.specs.Indexes.{ContextIndex, Part, in_queue, is_key_in, part_with_marks, no_part, settled_rows, all_settled, mark_limit, texts_in, rows_within}
use Rattle.ix_posting.specs.Forms.{counted_bytes, number_form}
use Rattle.ix_rows.specs.Growing.{Growing, nothing_yet, with_grown_document, grown_rows}
use Rattle.ix_rows.specs.RowMaps.{TermRowsView, or_nothing, with_posting, row_changes, row_map_changes}
use Rattle.ix_rows.specs.Spelling.{row_key}
use Rattle.ix_rows.specs.WordRows.{word_term}
use Rattle.ix_context.specs.Changes.{mark_each_changes, postings_changes}
use Rattle.ix_context.specs.Documents.{postings_by}
use Rattle.ix_context.specs.Gathering.{nothing_gathered, with_text, with_entries, gathering_changes}
use Rattle.ix_context.specs.laws.Gathered.{gathered_postings}
use Rattle.ix_context.specs.Postings.{fox_and_quick}
use Rattle.ix_context.specs.Spelling.{index_bytes}
use Rattle.ix_kinds.specs.Indextypes.{IndexOf}
use Rattle.ix_indexes.specs.Indexes.{Index, Defined, as_index, kinds, pending_rows}
use Rattle.ix_indexes.specs.Noting.{InContext, Noted, noted_at, noted_named}
use Rattle.ct_entry.specs.Each.{each}
use Rattle.st_parse.specs.declared.statements.Arg.TheVariants.{Text as TextArg}
use Rattle.st_parse.specs.declared.statements.Operand.{Operand}
use Rattle.st_parse.specs.declared.statements.Statement.TheVariants.{Insert}
use Rattle.db_names.specs.declared.heads.IndexHead.{IndexHead}
use Rattle.db_names.specs.declared.heads.IndexKind.TheVariants.{Context}
use Rattle.db_names.specs.Promises.{is_on_table}
use Rattle.db_cond.specs.Faults.{UnknownName, OutOfRange, LimitReached}
use Rattle.db_state.specs.Columns.{column_place}
use Rattle.db_state.specs.Effects.{Effect, Does, Works, Creates, Syncs, refuse, with_found, state_by}
use Rattle.db_state.specs.Lines.{call_done}
use Rattle.tx_prefs.specs.Preferences.{no_preferences}
use Rattle.th_store.specs.Thesauri.{no_thesauri}
use Rattle.db_state.specs.States.{StoreState, StandsForState, empty_state, is_view, index_limit, named_thesauri}
use Rattle.db_state.specs.Room.{room, its_room}
use Rattle.db_state.specs.laws.EachValue.{entries-each_value, entries-from_rising}
use Rattle.db_state.specs.laws.Empty.{empty_stands}
use Rattle.db_state.specs.laws.Heads.{store_heads, store_head}
use Rattle.db_change.specs.Creating.{check_table, table_created, with_new_table}
use Rattle.db_change.specs.Inserting.{arranged, check_list, check_row_values, has_row, insert_row, insert_values, key_in, others_kept, row_created}
use Rattle.db_change.specs.laws.NewTables.{AllNamed, IsFreeTable, created_table_stands}
use Rattle.db_change.specs.Noting.{heads_on, noted_on}
use Rattle.db_change.specs.laws.NewRows.{new_row_changes, new_row_stands}
use Rattle.db_state.specs.Lookups.{is_on_column}
use Rattle.db_index.specs.declared.kinds.BuiltKind.TheVariants as built
use Rattle.db_index.specs.Asking.{as_wanted, requests_in}
use Rattle.db_index.specs.Indexing.{IsFreeIndex, all_rows, check_index, create_index_by, index_created, target, has_too_many_rows, has_index_on, passes_limit, index_made_by, with_new_index}
use Rattle.db_state.specs.Entries.{its_sync_changes}
use Rattle.db_index.specs.Syncing.{has_too_many, sync_as_kind, sync_found, with_synced}
use Rattle.db_index.specs.laws.NewMarks.{new_index_stands, synced_stands}
use Rattle.db_engine.specs.Steps.{effect}
use Rattle.db_engine.specs.ShownStore.{shown_columns, table_statement, index_statement, first_values, sync_statement, second_values, shown_statements, after_all, shown_entries, shown_store, shown_state}
use Rattle.ix_context.specs.Contexts.{context_entry, context_synced, context_sync_changes}
use Rattle.ix_kinds.specs.Standing.{index_entry, no_place}

abbrev docs : List ℕ
docs = codes "docs"

abbrev di : List ℕ
di = codes "di"

-- ---- maps whose entries are written out

module _ {K X : Type 0} (R : K → K → Ordering) (o : IsTotalOrder R) where
  map_is : (m : FinMap R X) (es : List (K × X)) → T (is_sorted R es) → entries m ≡ es → m ≡ from_sorted es
  map_is m es sorted is = same_entries_map m (from_sorted es) (is ∙ sym (entries-from_sorted R es sorted))

  insert_is : (m : FinMap R X) (k : K) (x : X) (es : List (K × X)) → entries m ≡ es → T (is_sorted R (put_pair R k x es)) → insert m k x ≡ from_sorted (put_pair R k x es)
  insert_is m k x es is sorted = map_is (insert m k x) (put_pair R k x es) sorted (entries-insert o m k x ∙ ap (put_pair R k x) is)

  nothing : entries (empty {X = X} {R = R}) ≡ []
  nothing = entries-from_rising R o [] refl

-- ---- the states on the way: the table has these rows, and the index these marks, of which so many were given

abbrev table_of : Rows (List Value) → Table
table_of rows = record { columns = docs_columns; rows = rows }

abbrev table_with : List (ℤ × List Value) → Table
table_with rows = table_of (from_sorted rows)

abbrev tables_of : Rows (List Value) → Tables
tables_of rows = from_sorted ((docs, table_of rows) ∷ [])

abbrev tables_with : List (ℤ × List Value) → Tables
tables_with rows = tables_of (from_sorted rows)

abbrev Its : Type 0
Its = Mark (Unit {0})

abbrev part_with : ℕ → Part
part_with given = record { given = given; tidiness = Untidy; waste = 0 }

-- as one of its kind, and as one of all kinds
abbrev as_context : Part → Rows Its → IndexOf ContextIndex
as_context part marks = record { table = docs; column = 1; prefs = default_prefs; body = record { part = part; marks = marks } }

abbrev context_of : Part → Rows Its → Index
context_of part marks = as_index (as_context part marks)

abbrev index_of : ℕ → Rows Its → Index
index_of given marks = context_of (part_with given) marks

abbrev index_with : ℕ → List (ℤ × Its) → Index
index_with given marks = index_of given (from_sorted marks)

abbrev indexes_of : Index → Names Index
indexes_of x = from_sorted ((di, x) ∷ [])

abbrev indexes_with : ℕ → List (ℤ × Its) → Names Index
indexes_with given marks = indexes_of (index_with given marks)

abbrev state_with : List (ℤ × List Value) → ℕ → List (ℤ × Its) → StoreState
state_with rows given marks = record { tables = tables_with rows; indexes = indexes_with given marks; preferences = no_preferences; thesauri = no_thesauri }

abbrev without_index : StoreState
without_index = record { tables = tables_with []; indexes = empty; preferences = no_preferences; thesauri = no_thesauri }

-- there is no thesaurus in any of them
abbrev its_thesauri : Defined
its_thesauri = named_thesauri empty_state

table_there : (rows : List (ℤ × List Value)) → get (tables_with rows) docs ≡ Some (table_with rows)
table_there rows = get-from_sorted (slice_cmp nat_cmp) ((docs, table_with rows) ∷ []) docs tt

the_table : (rows : List (ℤ × List Value)) → table_at (tables_with rows) docs ≡ table_with rows
the_table rows = ap table_or_none (table_there rows)

index_there : (given : ℕ) (marks : List (ℤ × Its)) → get (indexes_with given marks) di ≡ Some (index_with given marks)
index_there given marks = get-from_sorted (slice_cmp nat_cmp) ((di, index_with given marks) ∷ []) di tt

no_rows : (X : Type 0) → empty ≡ from_sorted {K = ℤ} {X = X} {R = int_cmp} []
no_rows X = map_is int_cmp int_cmp_total empty [] tt (nothing int_cmp int_cmp_total)

docs_name : IsName docs
docs_name = record { spelt = refl; lower = refl }

di_name : IsName di
di_name = record { spelt = refl; lower = refl }

-- ---- CREATE TABLE docs (id NUMBER PRIMARY KEY, body CLOB, price NUMBER)

columns_named : AllNamed shown_columns
columns_named = (record { spelt = refl; lower = refl }, (record { spelt = refl; lower = refl }, (record { spelt = refl; lower = refl }, tt)))

table_free : IsFreeTable empty_state docs shown_columns
table_free = record {
  free = ap (λ (o : Option Table). is_some o || is_view docs) (get-empty (slice_cmp nat_cmp) docs);
  formed = refl;
  sized = refl;
  few = ap (λ (es : List (List ℕ × Table)). nat_lt column_limit 3 || nat_le table_limit (length es)) (nothing (slice_cmp nat_cmp) nat_list_cmp_total);
}

tables_created : with_table empty docs docs_columns ≡ tables_with []
tables_created = insert_is (slice_cmp nat_cmp) nat_list_cmp_total empty docs (table_of empty) [] (nothing (slice_cmp nat_cmp) nat_list_cmp_total) tt ∙ ap tables_of (no_rows (List Value))

abbrev first_changes : List KeyChange
first_changes = table_changes docs docs_columns

abbrev first : Content
first = after (spell first_changes) empty

first_stands : StandsForState first without_index
first_stands = subst (λ (ts : Tables). StandsForState first (record { tables = ts; indexes = empty; preferences = no_preferences; thesauri = no_thesauri })) tables_created (created_table_stands empty empty_state docs shown_columns empty_stands docs_name columns_named table_free)

-- ---- CREATE INDEX di ON docs(body)

no_row_yet : rows_within (table_at (tables_with []) docs) all_rows ≡ []
no_row_yet =
    ap (λ (x : Table). rows_within x all_rows) (the_table [])
    ∙ ap (λ (es : List (ℤ × List Value)). filter (is_key_in all_rows) (map (λ e. e.0) es)) (entries-from_sorted int_cmp [] tt)

index_free : IsFreeIndex without_index di docs built.Context (table_with []) 1 (as_wanted default_prefs [])
index_free = record {
  there = table_there [];
  free =
      ap (λ (o : Option Index). is_some o || has_index_on Context (empty {X = Index} {R = slice_cmp nat_cmp}) docs 1) (get-empty (slice_cmp nat_cmp) di)
      ∙ ap (λ (es : List (List ℕ × Index)). list_any (λ (e : List ℕ × Index). is_on_column Context docs 1 e.1) es) (nothing (slice_cmp nat_cmp) nat_list_cmp_total);
  texts = refl;
  subs = refl;
  sections = tt;
  few =
      ap (λ (es : List (List ℕ × Index)). nat_le index_limit (length (filter (λ (e : List ℕ × Index). same_list e.1.table docs) es)) || has_too_many_rows without_index docs built.Context (as_wanted default_prefs [])) (nothing (slice_cmp nat_cmp) nat_list_cmp_total)
      ∙ ap (λ (rs : List ℤ). not (nat_le (length rs) mark_limit)) no_row_yet;
}

abbrev settling_context : List ℤ → IndexOf ContextIndex
settling_context rows = as_context (part_with_marks (length rows) no_part) (settled_rows rows)

abbrev settling : List ℤ → Index
settling rows = as_index (settling_context rows)

indexes_created : with_index kinds (inl all_rows) its_thesauri (tables_with []) di (target docs 1) default_prefs empty ≡ indexes_with 0 []
indexes_created =
    insert_is (slice_cmp nat_cmp) nat_list_cmp_total empty di (new_index kinds (inl all_rows) its_thesauri (tables_with []) (target docs 1) default_prefs) [] (nothing (slice_cmp nat_cmp) nat_list_cmp_total) tt
    ∙ ap (λ (rows : List ℤ). indexes_of (settling rows)) no_row_yet
    ∙ ap (λ (marks : Rows Its). indexes_of (index_of 0 marks)) (no_rows Its)

abbrev second_changes : List KeyChange
second_changes = put_value (key kind.Indexes di []) (index_bytes docs 1 default_prefs 1 Untidy no_place) ∷ []

-- what a term's rows are put as
abbrev its_rows : Kind → List ℕ × Growing → List KeyChange
its_rows k e = row_changes k di e.0 (grown_rows e.1)

-- no postings are put where there are no rows
abbrev texts_then : ℤ → Option (List ℕ)
texts_then = texts_in (table_at (tables_with []) docs) 1

no_postings : postings_changes di (postings_by default_prefs texts_then) 1 [] ≡ []
no_postings =
    sym (gathered_postings default_prefs texts_then di 0 [] (omega arith))
    ∙ ap (λ (es : List (List ℕ × Growing)). each (its_rows kind.Postings) es ++ row_map_changes kind.Spans di empty) (nothing (slice_cmp nat_cmp) nat_list_cmp_total)
    ∙ ap (λ (es : List (List ℕ × Growing)). each (its_rows kind.Spans) es) (nothing (slice_cmp nat_cmp) nat_list_cmp_total)

second_are : kinds.create_changes (inl all_rows) its_thesauri (table_at (tables_with []) docs) di (target docs 1) default_prefs ≡ second_changes
second_are =
    ap (λ (rows : List ℤ). put_value (key kind.Indexes di []) (context_entry (settling_context rows) no_place) ∷ (mark_each_changes di 1 rows ++ postings_changes di (postings_by default_prefs texts_then) 1 rows)) no_row_yet
    ∙ ap (λ (ws : List KeyChange). put_value (key kind.Indexes di []) (context_entry (settling_context []) no_place) ∷ ws) no_postings

abbrev second : Content
second = after (spell second_changes) first

the_defaults_are : IsPrefs default_prefs
the_defaults_are = record { lexer = refl; can_be = defaults_can_be_set; stop = refl; group = refl; named = refl }

second_stands : StandsForState second (state_with [] 0 [])
second_stands =
    subst (λ (ws : List KeyChange). StandsForState (after (spell ws) first) (state_with [] 0 [])) second_are
    (subst (λ (xs : Names Index). StandsForState (after (spell (kinds.create_changes (inl all_rows) its_thesauri (table_at (tables_with []) docs) di (target docs 1) default_prefs)) first) (record { tables = tables_with []; indexes = xs; preferences = no_preferences; thesauri = no_thesauri })) indexes_created
    (new_index_stands first without_index di docs built.Context (table_with []) 1 (as_wanted default_prefs []) first_stands di_name the_defaults_are refl refl index_free))

-- ---- INSERT INTO docs

-- the index is the one on the table
abbrev its_heads : List (List ℕ × IndexHead)
its_heads = (di, record { kind = Context; target = record { table = docs; column = 1 } }) ∷ []

heads_are : (given : ℕ) (marks : List (ℤ × Its)) → heads_on (indexes_with given marks) docs ≡ its_heads
heads_are given marks =
    let head : List ℕ × IndexHead = (di, store_head (index_with given marks)) in
    let listed : entries (store_heads (indexes_with given marks)) ≡ head ∷ [] =
    entries-each_value (slice_cmp nat_cmp) store_head nat_list_cmp_total (indexes_with given marks)
    ∙ ap (map {B = List ℕ × IndexHead} (λ (e : List ℕ × Index). (e.0, store_head e.1))) (entries-from_sorted (slice_cmp nat_cmp) ((di, index_with given marks) ∷ []) tt) in
    ap (λ (es : List (List ℕ × IndexHead)). filter (λ (e : List ℕ × IndexHead). is_on_table docs e.1) es)
    (ap (λ (es : List (List ℕ × IndexHead)). entries (from_entries {R = key_order} es)) listed ∙ entries-from_rising key_order key_order_total (head ∷ []) refl)

-- and its column is what a change of a row needs
abbrev its_notes : List (List ℕ × Noted)
its_notes = (di, InContext 1) ∷ []

notes_are : (given : ℕ) (marks : List (ℤ × Its)) → noted_on (indexes_with given marks) docs ≡ its_notes
notes_are given marks =
    ap (λ (es : List (List ℕ × IndexHead)). noted_named (indexes_with given marks) (map (λ e. e.0) es)) (heads_are given marks)
    ∙ ap (λ (o : Option Index). noted_at di o ++ []) (index_there given marks)

module _ (rows : List (ℤ × List Value)) (given : ℕ) (marks : List (ℤ × Its)) (r : ℤ) (vs : List Value) (rows_rise : T (is_sorted int_cmp rows)) (marks_rise : T (is_sorted int_cmp marks))
    (then_rows : T (is_sorted int_cmp (put_pair int_cmp r vs rows))) (then_marks : T (is_sorted int_cmp (put_pair int_cmp r Pending marks))) (free : find int_cmp r rows ≡ None) where
  tables_with_row : with_row (tables_with rows) docs r vs ≡ tables_with (put_pair int_cmp r vs rows)
  tables_with_row =
      ap (altered (tables_with rows) docs (λ (x : Table). record x { rows = insert x.rows r vs })) (table_there rows)
      ∙ insert_is (slice_cmp nat_cmp) nat_list_cmp_total (tables_with rows) docs (table_of (insert (from_sorted rows) r vs)) ((docs, table_with rows) ∷ []) (entries-from_sorted (slice_cmp nat_cmp) ((docs, table_with rows) ∷ []) tt) tt
      ∙ ap tables_of (insert_is int_cmp int_cmp_total (from_sorted rows) r vs rows (entries-from_sorted int_cmp rows rows_rise) then_rows)

  -- what INSERT does to the row: it comes
  abbrev came : RowChange
  came = record { row = r; old = None; new = Some vs }

  it_came : row_change (tables_with rows) (with_row (tables_with rows) docs r vs) docs r ≡ came
  it_came =
      let was : row_at (tables_with rows) docs r ≡ None = ap (λ (o : Option Table). row_in o r) (table_there rows) ∙ (get-from_sorted int_cmp rows r rows_rise ∙ free) in
      let is : row_at (with_row (tables_with rows) docs r vs) docs r ≡ Some vs = row_now (tables_with rows) (with_row (tables_with rows) docs r vs) docs r (Some vs) (λ q s. row_at-with_row (tables_with rows) docs r vs (table_with rows) (table_there rows) q s) in
      λ i. record { row = r; old = was i; new = is i }

  indexes_with_note : indexes_after_row kinds (every kinds) docs (row_change (tables_with rows) (with_row (tables_with rows) docs r vs) docs r) (indexes_with given marks) ≡ indexes_with given (put_pair int_cmp r Pending marks)
  indexes_with_note =
      let noted : List ℕ × Index = (di, index_of given (insert (from_sorted marks) r Pending)) in
      ap (λ (c : RowChange). indexes_after_row kinds (every kinds) docs c (indexes_with given marks)) it_came
      ∙ map_is (slice_cmp nat_cmp) nat_list_cmp_total (indexes_after_row kinds (every kinds) docs came (indexes_with given marks)) (noted ∷ []) tt
      (ap (λ (es : List (List ℕ × Index)). entries (from_entries {R = slice_cmp nat_cmp} (map {B = List ℕ × Index} (λ (e : List ℕ × Index). (e.0, after_row_on kinds (every kinds) docs came e.0 e.1)) es))) (entries-from_sorted (slice_cmp nat_cmp) ((di, index_with given marks) ∷ []) tt)
      ∙ entries-from_rising (slice_cmp nat_cmp) nat_list_cmp_total (noted ∷ []) refl)
      ∙ ap (λ (ms : Rows Its). indexes_of (index_of given ms)) (insert_is int_cmp int_cmp_total (from_sorted marks) r Pending marks (entries-from_sorted int_cmp marks marks_rise) then_marks)

  row_stands : (c : Content) → StandsForState c (state_with rows given marks) → IsRow r → FitColumns (others docs_columns) vs → length rows < 100000
      → StandsForState (after (spell (new_row_changes (at c) docs r vs its_notes)) c) (state_with (put_pair int_cmp r vs rows) given (put_pair int_cmp r Pending marks))
  row_stands c stands row fit few =
      let m = state_with rows given marks in
      let count : length (entries (table_with rows).rows) ≡ length rows = ap length (entries-from_sorted int_cmp rows rows_rise) in
      subst (λ (notes : List (List ℕ × Noted)). StandsForState (after (spell (new_row_changes (at c) docs r vs notes)) c) (state_with (put_pair int_cmp r vs rows) given (put_pair int_cmp r Pending marks))) (notes_are given marks)
      (subst (λ (ts : Tables). StandsForState (after (spell (new_row_changes (at c) docs r vs (noted_on m.indexes docs))) c) (record { tables = ts; indexes = indexes_with given (put_pair int_cmp r Pending marks); preferences = no_preferences; thesauri = no_thesauri })) tables_with_row
      (subst (λ (xs : Names Index). StandsForState (after (spell (new_row_changes (at c) docs r vs (noted_on m.indexes docs))) c) (record { tables = with_row (tables_with rows) docs r vs; indexes = xs; preferences = no_preferences; thesauri = no_thesauri })) indexes_with_note
      (new_row_stands c m docs (table_with rows) r vs stands (table_there rows) (get-from_sorted int_cmp rows r rows_rise ∙ free) row fit (omega (arith, count, few)))))

abbrev row_one : List Value
row_one = Text (codes "quick fox quick") ∷ Number (pos 0) ∷ []

abbrev row_two : List Value
row_two = Text (codes "slow") ∷ Number (negsuc 0) ∷ []

one_fits : FitColumns (others docs_columns) row_one
unfolding encode
one_fits = ((omega arith, (codes "quick fox quick", (refl, refl))), (omega arith, tt))

two_fits : FitColumns (others docs_columns) row_two
unfolding encode
two_fits = ((omega arith, (codes "slow", (refl, refl))), (omega arith, tt))

abbrev third : Content
third = after (spell (new_row_changes (at second) docs (pos 1) row_one its_notes)) second

third_stands : StandsForState third (state_with ((pos 1, row_one) ∷ []) 0 ((pos 1, Pending) ∷ []))
third_stands = row_stands [] 0 [] (pos 1) row_one tt tt tt tt refl second second_stands (omega arith) one_fits (omega arith)

-- ---- EXEC CTX_DDL.SYNC_INDEX('di')

abbrev one_row : List (ℤ × List Value)
one_row = (pos 1, row_one) ∷ []

abbrev waiting_context : IndexOf ContextIndex
waiting_context = as_context (part_with 0) (from_sorted ((pos 1, Pending) ∷ []))

abbrev waiting : Index
waiting = index_with 0 ((pos 1, Pending) ∷ [])

one_waits : pending_rows waiting ≡ pos 1 ∷ []
one_waits = ap (λ (es : List (ℤ × Its)). keys_where in_queue es) (entries-from_sorted int_cmp ((pos 1, Pending) ∷ []) tt)

abbrev its_texts : ℤ → Option (List ℕ)
its_texts = texts_in (table_at (tables_with one_row) docs) 1

its_text : its_texts (pos 1) ≡ Some (codes "quick fox quick")
its_text =
    ap (λ (x : Table). texts_in x 1 (pos 1)) (the_table one_row)
    ∙ ap (λ (o : Option (List Value)). option_and_then (λ vs. text_in_column vs 1) o) (get-from_sorted int_cmp one_row (pos 1) tt)

abbrev settled_first : List KeyChange
settled_first =
    drop_key (key kind.Pending di (row_part (pos 1))) ∷ put_value (key kind.DocumentRows di (document_part 1)) (row_bytes (pos 1)) ∷ put_value (key kind.RowDocuments di (row_part (pos 1))) (to_be_bytes w32 1) ∷ []

abbrev fox : Entry
fox = entry 0 (codes "fox") (pair 2 2 ∷ [])

abbrev quick : Entry
quick = entry 0 (codes "quick") (pair 1 1 ∷ pair 3 3 ∷ [])

abbrev fox_term : List ℕ
fox_term = word_term 0 (codes "fox")

abbrev quick_term : List ℕ
quick_term = word_term 0 (codes "quick")

abbrev fox_rows : Growing
fox_rows = with_grown_document nothing_yet 1 (counted_bytes number_form (2 ∷ []))

abbrev quick_rows : Growing
quick_rows = with_grown_document nothing_yet 1 (counted_bytes number_form (1 ∷ 3 ∷ []))

-- the keys of the text in order, each with its rows
abbrev found_rows : List (List ℕ × Growing)
found_rows = (fox_term, fox_rows) ∷ (quick_term, quick_rows) ∷ []

its_words : with_posting (with_posting empty fox_term 1 (counted_bytes number_form (2 ∷ []))) quick_term 1 (counted_bytes number_form (1 ∷ 3 ∷ [])) ≡ from_sorted found_rows
unfolding varint
its_words =
    ap (λ (o : Option Growing). with_posting (insert empty fox_term (with_grown_document (or_nothing o) 1 (counted_bytes number_form (2 ∷ [])))) quick_term 1 (counted_bytes number_form (1 ∷ 3 ∷ []))) (get-empty (slice_cmp nat_cmp) fox_term)
    ∙ ap (λ (m : TermRowsView). with_posting m quick_term 1 (counted_bytes number_form (1 ∷ 3 ∷ []))) (insert_is (slice_cmp nat_cmp) nat_list_cmp_total empty fox_term fox_rows [] (nothing (slice_cmp nat_cmp) nat_list_cmp_total) tt)
    ∙ ap (λ (o : Option Growing). insert (from_sorted ((fox_term, fox_rows) ∷ [])) quick_term (with_grown_document (or_nothing o) 1 (counted_bytes number_form (1 ∷ 3 ∷ [])))) (get-from_sorted (slice_cmp nat_cmp) ((fox_term, fox_rows) ∷ []) quick_term tt)
    ∙ insert_is (slice_cmp nat_cmp) nat_list_cmp_total (from_sorted ((fox_term, fox_rows) ∷ [])) quick_term quick_rows ((fox_term, fox_rows) ∷ []) (entries-from_sorted (slice_cmp nat_cmp) ((fox_term, fox_rows) ∷ []) tt) tt

abbrev put_words : List KeyChange
put_words = put_value (key kind.Postings di (row_key fox_term 1)) (1 ∷ 1 ∷ 1 ∷ 2 ∷ []) ∷ put_value (key kind.Postings di (row_key quick_term 1)) (1 ∷ 1 ∷ 2 ∷ 1 ∷ 2 ∷ []) ∷ []

words_are_put : gathering_changes di (with_entries nothing_gathered 1 (fox ∷ quick ∷ [])) ≡ put_words
unfolding varint
words_are_put =
    ap (λ (m : TermRowsView). row_map_changes kind.Postings di m ++ row_map_changes kind.Spans di empty) its_words
    ∙ ap (λ (es : List (List ℕ × Growing)). each (its_rows kind.Postings) es ++ row_map_changes kind.Spans di empty) (entries-from_sorted (slice_cmp nat_cmp) found_rows tt)
    ∙ ap (λ (es : List (List ℕ × Growing)). each (its_rows kind.Postings) found_rows ++ each (its_rows kind.Spans) es) (nothing (slice_cmp nat_cmp) nat_list_cmp_total)

postings_are : postings_changes di (postings_by default_prefs its_texts) 1 (pos 1 ∷ []) ≡ put_words
postings_are =
    sym (gathered_postings default_prefs its_texts di 0 (pos 1 ∷ []) (omega arith))
    ∙ ap (λ (o : Option (List ℕ)). gathering_changes di (with_text default_prefs nothing_gathered 1 o)) its_text
    ∙ ap (λ (es : List Entry). gathering_changes di (with_entries nothing_gathered 1 es)) fox_and_quick
    ∙ words_are_put

abbrev fourth_changes : List KeyChange
fourth_changes = (settled_first ++ put_words) ++ put_value (key kind.Indexes di []) (index_bytes docs 1 default_prefs 2 Untidy no_place) ∷ []

-- the entry of the index ends in no place yet
third_entry : at third (key kind.Indexes di []) ≡ Some (index_bytes docs 1 default_prefs 1 Untidy no_place)
unfolding row_bytes
third_entry = at-after (new_row_changes (at second) docs (pos 1) row_one its_notes) second (key kind.Indexes di []) ∙ at-after second_changes first (key kind.Indexes di [])

its_place : place_of kinds (at third) di waiting ≡ no_place
unfolding varint encode
its_place = ap (bytes_behind (length (index_entry kinds waiting []))) third_entry

-- with so many rows settled
abbrev its_bytes : Part → List ℕ
its_bytes p = index_bytes docs 1 default_prefs (p.given + 1) p.tidiness no_place

fourth_are : its_sync_changes (state_with one_row 0 ((pos 1, Pending) ∷ [])) third di waiting ≡ fourth_changes
fourth_are =
    ap (kinds.sync_changes its_thesauri (table_at (tables_with one_row) docs) di waiting) its_place
    ∙ ap (context_sync_changes di waiting_context no_place its_texts) one_waits
    ∙ ap (λ (ws : List KeyChange). (settled_first ++ ws) ++ put_value (key kind.Indexes di []) (context_entry (record waiting_context { body = context_synced waiting_context.body }) no_place) ∷ []) postings_are
    ∙ ap (λ (rs : List ℤ). (settled_first ++ put_words) ++ put_value (key kind.Indexes di []) (its_bytes (part_with_marks (length rs) (part_with 0))) ∷ []) one_waits

few_enough : has_too_many waiting ≡ false
few_enough = ap (λ (rs : List ℤ). not (nat_le (0 + length rs) mark_limit)) one_waits

indexes_synced : indexes_after_sync kinds its_thesauri (tables_with one_row) di (indexes_with 0 ((pos 1, Pending) ∷ [])) ≡ indexes_with 1 ((pos 1, Settled tt) ∷ [])
indexes_synced =
    let marks : Rows Its = from_sorted ((pos 1, Pending) ∷ []) in
    let all : Rows Its = all_settled marks in
    let change : Index → Index = index_after_sync kinds its_thesauri (tables_with one_row) in
    ap (altered (indexes_with 0 ((pos 1, Pending) ∷ [])) di change) (index_there 0 ((pos 1, Pending) ∷ []))
    ∙ insert_is (slice_cmp nat_cmp) nat_list_cmp_total (indexes_with 0 ((pos 1, Pending) ∷ [])) di (change waiting) ((di, waiting) ∷ []) (entries-from_sorted (slice_cmp nat_cmp) ((di, waiting) ∷ []) tt) tt
    ∙ ap (λ (rs : List ℤ). indexes_of (context_of (part_with_marks (length rs) (part_with 0)) all)) one_waits
    ∙ ap (λ (ms : Rows Its). indexes_of (index_of 1 ms))
    (map_is int_cmp int_cmp_total all ((pos 1, Settled tt) ∷ []) tt
    (entries-each_value int_cmp (λ (m : Its). Settled tt) int_cmp_total marks ∙ ap (map {B = ℤ × Its} (λ (e : ℤ × Its). (e.0, Settled tt))) (entries-from_sorted int_cmp ((pos 1, Pending) ∷ []) tt)))

abbrev fourth : Content
fourth = after (spell fourth_changes) third

fourth_stands : StandsForState fourth (state_with one_row 1 ((pos 1, Settled tt) ∷ []))
fourth_stands =
    subst (λ (ws : List KeyChange). StandsForState (after (spell ws) third) (state_with one_row 1 ((pos 1, Settled tt) ∷ []))) fourth_are
    (subst (λ (xs : Names Index). StandsForState (after (spell (its_sync_changes (state_with one_row 0 ((pos 1, Pending) ∷ [])) third di waiting)) third) (record { tables = tables_with one_row; indexes = xs; preferences = no_preferences; thesauri = no_thesauri })) indexes_synced
    (synced_stands third (state_with one_row 0 ((pos 1, Pending) ∷ [])) di waiting third_stands (index_there 0 ((pos 1, Pending) ∷ [])) few_enough))

-- ---- INSERT INTO docs once more

abbrev fifth : Content
fifth = after (spell (new_row_changes (at fourth) docs (pos 2) row_two its_notes)) fourth

fifth_stands : StandsForState fifth shown_state
fifth_stands = row_stands one_row 1 ((pos 1, Settled tt) ∷ []) (pos 2) row_two tt tt tt tt refl fourth fourth_stands (omega arith) two_fits (omega arith)

-- ---- the entries then

its_entries : entries fifth ≡ shown_entries
unfolding row_bytes varint
its_entries =
    step (new_row_changes (at fourth) docs (pos 2) row_two its_notes) fourth _ (step fourth_changes third _ (step (new_row_changes (at second) docs (pos 1) row_one its_notes) second _ (step second_changes first _ (step first_changes empty [] (nothing (slice_cmp nat_cmp) nat_list_cmp_total)))))
  where
    step : (ws : List KeyChange) (m : Content) (es : List (List ℕ × List ℕ)) → entries m ≡ es → entries (after (spell ws) m) ≡ applied (spell ws) es
    step ws m es is = entries-after (spell ws) m ∙ ap (applied (spell ws)) is

-- ---- the effects of the statements

table_is_created : effect empty_state table_statement ≡ Does without_index table_created
table_is_created =
    let done = Does (with_new_table empty_state docs shown_columns) table_created in
    ap (λ (o : Option Table). check_table (is_some o) (nat_le table_limit (length (entries (empty {X = Table} {R = slice_cmp nat_cmp})))) docs shown_columns done) (get-empty (slice_cmp nat_cmp) docs)
    ∙ ap (λ (es : List (List ℕ × Table)). check_table false (nat_le table_limit (length es)) docs shown_columns done) (nothing (slice_cmp nat_cmp) nat_list_cmp_total)
    ∙ ap (λ (ts : Tables). Does (record { tables = ts; indexes = empty; preferences = no_preferences; thesauri = no_thesauri }) table_created) tables_created

-- the index is made, whatever the state is then
abbrev created_to : StoreState → Effect
created_to n = Works n index_created (Creates without_index (inl all_rows) di (target docs 1) default_prefs)

index_is_created : effect without_index index_statement ≡ created_to (state_with [] 0 [])
index_is_created =
    ap (λ (o : Option Table). with_found o (UnknownName docs) (λ (x : Table). with_found (column_place (codes "body") x.columns) (UnknownName (codes "body")) (λ (place : ℕ). create_index_by without_index di docs built.Context None (requests_in built.Context None) x place))) (table_there [])
    ∙ ap (λ (b : Bool). check_index b true (Some (as_wanted default_prefs [])) true (passes_limit without_index docs built.Context) di (index_made_by without_index di docs built.Context 1)) index_free.free
    ∙ ap (λ (b : Bool). refuse b LimitReached (index_made_by without_index di docs built.Context 1 (as_wanted default_prefs []))) index_free.few
    ∙ ap (λ (xs : Names Index). created_to (record { tables = tables_with []; indexes = xs; preferences = no_preferences; thesauri = no_thesauri })) indexes_created

module _ (rows : List (ℤ × List Value)) (given : ℕ) (marks : List (ℤ × Its)) (r : ℤ) (values : List Operand) (rows_rise : T (is_sorted int_cmp rows)) (marks_rise : T (is_sorted int_cmp marks))
    (then_rows : T (is_sorted int_cmp (put_pair int_cmp r (others_kept values) rows))) (then_marks : T (is_sorted int_cmp (put_pair int_cmp r Pending marks))) (free : find int_cmp r rows ≡ None) where
  row_is_inserted : key_in values ≡ Some r → nat_le row_limit (length rows) ≡ false
      → ((done : Effect) → check_list docs_columns None values done ≡ done) → ((done : Effect) → check_row_values false false docs_columns values done ≡ done)
      → effect (state_with rows given marks) (Insert docs None values) ≡ Does (state_with (put_pair int_cmp r (others_kept values) rows) given (put_pair int_cmp r Pending marks)) row_created
  row_is_inserted key few listed checked =
      let m = state_with rows given marks in
      let x = table_with rows in
      let us = with_row (tables_with rows) docs r (others_kept values) in
      let done = insert_row m docs values r in
      ap (λ (o : Option Table). with_found o (UnknownName docs) (λ (x : Table). check_list x.columns None values (insert_values m docs x (arranged None x.columns values)))) (table_there rows)
      ∙ listed (insert_values m docs x values)
      ∙ ap (λ (o : Option ℤ). check_row_values (has_row x o) (nat_le row_limit (length (entries x.rows))) docs_columns values (with_found o OutOfRange (λ (r : ℤ). insert_row m docs values r))) key
      ∙ ap (λ (o : Option (List Value)). check_row_values (is_some o) (nat_le row_limit (length (entries x.rows))) docs_columns values done) (get-from_sorted int_cmp rows r rows_rise ∙ free)
      ∙ ap (λ (es : List (ℤ × List Value)). check_row_values false (nat_le row_limit (length es)) docs_columns values done) (entries-from_sorted int_cmp rows rows_rise)
      ∙ ap (λ (b : Bool). check_row_values false b docs_columns values done) few
      ∙ checked done
      ∙ ap (λ (xs : Names Index). Does (record { tables = us; indexes = xs; preferences = no_preferences; thesauri = no_thesauri }) row_created) (indexes_with_note rows given marks r (others_kept values) rows_rise marks_rise then_rows then_marks free)
      ∙ ap (λ (ts : Tables). Does (record { tables = ts; indexes = indexes_with given (put_pair int_cmp r Pending marks); preferences = no_preferences; thesauri = no_thesauri }) row_created) (tables_with_row rows given marks r (others_kept values) rows_rise marks_rise then_rows then_marks free)

-- it is synchronised, whatever the state is then
abbrev synced_to : StoreState → Effect
synced_to n = Works n call_done (Syncs (state_with one_row 0 ((pos 1, Pending) ∷ [])) di)

index_is_synced : effect (state_with one_row 0 ((pos 1, Pending) ∷ [])) sync_statement ≡ synced_to (state_with one_row 1 ((pos 1, Settled tt) ∷ []))
index_is_synced =
    let m = state_with one_row 0 ((pos 1, Pending) ∷ []) in
    ap (λ (o : Option Index). sync_as_kind (option_map (λ (x : Index). kinds.kind x.body) o) m (Some di) (TextArg di ∷ [])) (index_there 0 ((pos 1, Pending) ∷ []))
    ∙ ap (λ (o : Option Index). with_found o (UnknownName di) (λ (x : Index). sync_found m di x)) (index_there 0 ((pos 1, Pending) ∷ []))
    ∙ ap (λ (b : Bool). refuse b LimitReached (synced_to (with_synced m di))) few_enough
    ∙ ap (λ (xs : Names Index). synced_to (record { tables = tables_with one_row; indexes = xs; preferences = no_preferences; thesauri = no_thesauri })) indexes_synced

pub it_is_led_to : after_all empty_state shown_statements ≡ shown_state
it_is_led_to =
    ap (λ (e : Effect). after_all (state_by empty_state e) (index_statement ∷ Insert docs None first_values ∷ sync_statement ∷ Insert docs None second_values ∷ [])) table_is_created
    ∙ ap (λ (e : Effect). after_all (state_by without_index e) (Insert docs None first_values ∷ sync_statement ∷ Insert docs None second_values ∷ [])) index_is_created
    ∙ ap (λ (e : Effect). after_all (state_by (state_with [] 0 []) e) (sync_statement ∷ Insert docs None second_values ∷ [])) (row_is_inserted [] 0 [] (pos 1) first_values tt tt tt tt refl refl refl (λ done. refl) (λ done. refl))
    ∙ ap (λ (e : Effect). after_all (state_by (state_with one_row 0 ((pos 1, Pending) ∷ [])) e) (Insert docs None second_values ∷ [])) index_is_synced
    ∙ ap (λ (e : Effect). state_by (state_with one_row 1 ((pos 1, Settled tt) ∷ [])) e) (row_is_inserted one_row 1 ((pos 1, Settled tt) ∷ []) (pos 2) second_values tt tt tt tt refl refl refl (λ done. refl) (λ done. refl))

-- ---- and so the store

pub it_stands : StandsForState shown_store shown_state
it_stands = subst (λ (c : Content). StandsForState c shown_state) (map_is (slice_cmp nat_cmp) nat_list_cmp_total fifth shown_entries tt its_entries) fifth_stands

pub it_weighs : weight shown_store ≡ 704
it_weighs = ap (sum_by entry_weight) (entries-from_sorted (slice_cmp nat_cmp) shown_entries tt)

pub its_state_takes : room shown_state ≡ 921
its_state_takes = its_room
