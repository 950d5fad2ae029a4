-- The state after a synchronisation, and after a new index.
use Rattle.std.proofs.Common.{◌≡◌, inl, inr, ℕ, ◌+◌, ◌≤◌, ◌<◌, Bool, false, true, cond, List, [], ◌∷◌, length, Option, Some, None, refl, sym, ap, subst, ◌∙◌, arith}
use Rattle.std.specs.Prelude.{is_some, ◌&&◌, ◌==◌, nat_le}
use Rattle.std.specs.List.{list_all, list_any}
use Rattle.std.specs.Ordering.{nat_cmp, eq_by_cmp}
use Rattle.std.specs.Cmp.Lexicographic.{slice_cmp}
use Rattle.std.specs.FinMap.{get, insert, entries, find, get-entries}
use Rattle.std.proofs.lemmas.Bool.{leb-true, leb-false, eq-eqb, and_from, or_parts as either}
use Rattle.std.proofs.lemmas.Cmp.{nat_list_cmp_total}
use Rattle.ct_base.specs.laws.Bools.{not_false}
use Rattle.ct_keep.specs.Content.{Content, after}
use Rattle.ct_base.specs.Names.{IsName, is_kept}
use Rattle.ct_entry.specs.Keys.{Key, at, same_list}
use Rattle.ct_entry.specs.laws.Keys.{list_from_same, list_same}
use Rattle.ct_entry.specs.Maps.{Names, alter, altered}
use Rattle.ct_entry.specs.Changes.{AllOf, AreChanges, spell, view}
use Rattle.tb_table.specs.Tables.{Table, Tables}
use Rattle.tb_table.specs.Rules.{IsTable}
use Rattle.tx_settings.specs.PrefsBytes.{IsPrefs}
use Rattle.tx_sets.specs.Sets.{are_sub_indexes}
use Rattle.ix_kinds.specs.Rows.{table_at, table_or_none}
use Rattle.ix_kinds.specs.Targets.{IsTarget, is_text_at}
use Rattle.ix_kinds.specs.Indextypes.{IndexOf, with_body}
use Rattle.ix_kinds.specs.Standing.{HasEntry, is_of_indexes}
use Rattle.ix_kinds.specs.laws.Standing.{place_is}
use Rattle.ix_kinds.specs.IndextypeLaws.{AreOwnChanges, is_its}
use Rattle.ix_kinds.specs.Statements.{index_after_sync, indexes_after_sync, new_index, place_of, with_index, IsFreeColumn}
use Rattle.ix_kinds.specs.laws.Syncs.{sync_stands, sync_keeps}
use Rattle.ix_kinds.specs.laws.Creates.{create_stands, create_keeps}
use Rattle.db_names.specs.declared.heads.IndexKind.{IndexKind}
use Rattle.db_names.specs.Heads.{index_code}
use Rattle.db_state.specs.Lookups.{is_on_column}
use Rattle.ix_context.specs.Indexes.{ContextIndex, mark_limit, waiting_rows}
use Rattle.ix_context.specs.laws.Well.{AreIndexChanges, are_changes, index_changes_sync}
use Rattle.ix_indexes.specs.Indexes.{Body, Defined, Index, StandsUnder, as_index, kinds}
use Rattle.ix_indexes.specs.laws.Indexes.{context_is, kind_is, kinds_laws}
use Rattle.ix_kinds.specs.laws.Tables.{table_is}
use Rattle.db_index.specs.declared.kinds.BuiltKind.{BuiltKind}
use Rattle.db_index.specs.declared.kinds.BuiltKind.TheVariants.{Context, Catalogue, Rules}
use Rattle.db_index.specs.declared.asking.Wanted.{Wanted}
use Rattle.db_index.specs.Kinds.{index_kind}
use Rattle.db_index.specs.Asking.{are_sub_columns}
use Rattle.db_state.specs.Entries.{its_sync_changes}
use Rattle.db_index.specs.Syncing.{has_too_many, with_synced}
use Rattle.db_index.specs.Indexing.{asked_for, has_index_on, has_too_many_rows, target, with_new_index, IsFreeIndex}
use Rattle.db_state.specs.laws.ShortRows.{rows_frame, rows_put}
use Rattle.db_state.specs.States.{StoreState, StandsForState, HasShortRows, indexes_on, index_limit, named_thesauri}
use Rattle.db_index.specs.laws.Counting.{one, counted, count_insert, one_true, one_false}
use Rattle.db_index.specs.laws.IndexChanges.{indexes_changed}
use Rattle.db_index.specs.laws.RuleKeys.{sync_are}
use Rattle.db_index.specs.laws.Created.{created_are, created_of, created_short, its_of, may_ask, no_rows}
use Rattle.ct_base.specs.laws.Options.{no_value as no_some}

-- ---- the state after a synchronisation

room_left : (x : Index) → has_too_many x ≡ false → kinds.can_sync x ≡ true
room_left x h = not_false (kinds.can_sync x) h

-- where an index is altered that stays on its table, a table has as many as before
pub few_altered : (change : Index → Index) → ((x : Index) → (change x).table ≡ x.table) → (xs : Names Index) (i : List ℕ) (x : Index) → get xs i ≡ Some x
    → (t : List ℕ) → length (indexes_on (alter xs i change) t) ≡ length (indexes_on xs t)
few_altered change same_table xs i x there t =
    let is : alter xs i change ≡ insert xs i (change x) = ap (altered xs i change) there in
    let counts = count_insert (slice_cmp nat_cmp) (λ (y : Index). same_list y.table t) nat_list_cmp_total xs i (change x) in
    let table = ap (λ (u : List ℕ). one (same_list u t)) (same_table x) in
    ap (λ (ys : Names Index). length (indexes_on ys t)) is ∙ alike (get xs i) there (omega (arith, counts, table))
  where
    alike : (o : Option Index) → o ≡ Some x
        → length (indexes_on (insert xs i (change x)) t) + counted (slice_cmp nat_cmp) (λ (y : Index). same_list y.table t) o ≡ length (indexes_on xs t) + one (same_list x.table t)
        → length (indexes_on (insert xs i (change x)) t) ≡ length (indexes_on xs t)
    alike None e counts = cc
    alike (Some y) e counts =
        let same : counted {K = List ℕ} (slice_cmp nat_cmp) (λ (z : Index). same_list z.table t) (Some y) ≡ one (same_list x.table t) = ap (counted {K = List ℕ} (slice_cmp nat_cmp) (λ (z : Index). same_list z.table t)) e in
        omega (arith, counts, same)

module _ (c : Content) (m : StoreState) (i : List ℕ) (stands : StandsForState c m) where
  module _ (x : Index) (there : get m.indexes i ≡ Some x) (room : has_too_many x ≡ false) where
    abbrev put : List (Key × Option (List ℕ))
    put = its_sync_changes m c i x

    -- its own entry, and the place that it ends in
    its_entry : HasEntry kinds (at c) i x
    its_entry = (subst (StandsUnder (at c) m.tables i) there (stands.indexes i)).entry

    resumes : kinds.resumes x.body (place_of kinds (at c) i x)
    resumes = subst (kinds.resumes x.body) (sym (place_is kinds (at c) i x its_entry)) its_entry.resumes

    its_own : AreOwnChanges kinds i x put
    its_own = kinds_laws.syncs.own (named_thesauri m) (table_at m.tables x.table) i x (place_of kinds (at c) i x)

    put_of : AllOf is_of_indexes put
    put_of = its_of x.body put its_own.of

    its_table : IsTable (table_at m.tables x.table)
    its_table = let target = (stands.state.indexes.each i x there).target in table_is m.tables x.table target.table stands.state.tables target.there

    -- where the changes are on keys, and leave the rows of postings short
    stands_synced : AreChanges put → HasShortRows (view put (at c)) → StandsForState (after (spell put) c) (with_synced m i)
    stands_synced are short =
        indexes_changed c m put (indexes_after_sync kinds (named_thesauri m) m.tables i m.indexes) stands put_of are short
        (sync_stands kinds kinds_laws (at c) m.tables m.indexes (named_thesauri m) i x there (room_left x room) stands.state.tables stands.state.indexes stands.indexes)
        (sync_keeps kinds kinds_laws m.tables m.indexes (named_thesauri m) i x there (room_left x room) stands.state.tables stands.state.indexes)
        (λ t. subst (λ (n : ℕ). n ≤ index_limit) (sym (few_altered (index_after_sync kinds (named_thesauri m) m.tables) (λ y. refl) m.indexes i x there t)) (stands.state.few t))

  -- those of a CONTEXT index are ones of its kind
  context_put : (x : IndexOf ContextIndex) (there : get m.indexes i ≡ Some (as_index x)) (room : has_too_many (as_index x) ≡ false) → AreIndexChanges (put (as_index x) there room)
  context_put x there room =
      let index = stands.state.indexes.each i (as_index x) there in
      index_changes_sync (table_at m.tables x.table) i x (place_of kinds (at c) i (as_index x)) (its_table (as_index x) there room) (stands.state.indexes.names i (as_index x) there) (stands.state.tables.names x.table index.target.table index.target.there)
      index.prefs (resumes (as_index x) there room) (context_is m.tables x index) (leb-true (x.body.part.given + length (waiting_rows x.body.marks)) mark_limit (room_left (as_index x) room))

  -- by what the index is
  synced_by : (x : Index) (b : Body) → get m.indexes i ≡ Some (with_body x b) → has_too_many (with_body x b) ≡ false
      → StandsForState (after (spell (its_sync_changes m c i (with_body x b))) c) (with_synced m i)
  synced_by x (inl b) there room =
      let are = context_put (with_body x b) there room in
      stands_synced (with_body x (inl b)) there room (are_changes (put (with_body x (inl b)) there room) are) (rows_put (put (with_body x (inl b)) there room) (at c) are stands.short_rows)
  synced_by x (inr (inl b)) there room = let wrong : true ≡ false = room in cc
  synced_by x (inr (inr b)) there room =
      let y : Index = with_body x (inr (inr b)) in
      stands_synced y there room
      (sync_are (named_thesauri m) (table_at m.tables x.table) i (with_body x b) (stands.state.indexes.names i y there) (its_table y there room) (kind_is m.tables y (stands.state.indexes.each i y there)))
      (rows_frame (is_its kinds y.body) (put y there room) (at c) (its_own y there room).of (no_rows (inr b)) stands.short_rows)

pub synced_stands : (c : Content) (m : StoreState) (i : List ℕ) (x : Index) → StandsForState c m → get m.indexes i ≡ Some x → has_too_many x ≡ false
    → StandsForState (after (spell (its_sync_changes m c i x)) c) (with_synced m i)
synced_stands c m i x stands there room = synced_by c m i stands x x.body there room

-- ---- the state after a new index

target_of_texts : (m : StoreState) (t : List ℕ) (x : Table) (place : ℕ) → get m.tables t ≡ Some x → is_text_at x.columns place ≡ true → IsTarget m.tables t place
target_of_texts m t x place there texts = record { table = x; there = there; texts = texts }

-- no index is on the column
no_entry : (kind : IndexKind) (t : List ℕ) (place : ℕ) (es : List (List ℕ × Index)) → list_any (λ (e : List ℕ × Index). is_on_column kind t place e.1) es ≡ false
    → (j : List ℕ) (y : Index) → find (slice_cmp nat_cmp) j es ≡ Some y → is_on_column kind t place y ≡ false
no_entry kind t place [] h j y is = cc
no_entry kind t place (e ∷ es) h j y is =
    let b = either (is_on_column kind t place e.1) (list_any (λ (e : List ℕ × Index). is_on_column kind t place e.1) es) h in
    go (eq_by_cmp (slice_cmp nat_cmp) j e.0) is b.0 (no_entry kind t place es b.1 j y)
  where
    go : (b : Bool) → cond b (Some e.1) (find (slice_cmp nat_cmp) j es) ≡ Some y → is_on_column kind t place e.1 ≡ false
        → (find (slice_cmp nat_cmp) j es ≡ Some y → is_on_column kind t place y ≡ false) → is_on_column kind t place y ≡ false
    go true is none rest = let e1 : e.1 ≡ y = cc in subst (λ (z : Index). is_on_column kind t place z ≡ false) e1 none
    go false is none rest = rest is

column_free : (kind : IndexKind) (xs : Names Index) (t : List ℕ) (place : ℕ) → has_index_on kind xs t place ≡ false → IsFreeColumn kinds xs (target t place) kind
column_free kind xs t place h j y is table column of_kind =
    let none = no_entry kind t place (entries xs) h j y (sym (get-entries xs j) ∙ is) in
    let on : (same_list y.table t && (y.column == place)) ≡ true = and_from (same_list y.table t) (y.column == place) (ap (λ (u : List ℕ). same_list u t) table ∙ list_same t) (eq-eqb y.column place column) in
    let yes : is_on_column kind t place y ≡ true = and_from (same_list y.table t && (y.column == place)) (index_code (kinds.kind y.body) == index_code kind) on (eq-eqb (index_code (kinds.kind y.body)) (index_code kind) (ap index_code of_kind)) in
    let wrong : true ≡ false = sym yes ∙ none in
    cc

-- a table has at most one index more
few_created : (xs : Names Index) (i : List ℕ) (x : Index) → get xs i ≡ None → (t : List ℕ) → length (indexes_on xs x.table) < index_limit → ((q : List ℕ) → length (indexes_on xs q) ≤ index_limit)
    → length (indexes_on (insert xs i x) t) ≤ index_limit
few_created xs i x none t room few =
    let counts = count_insert (slice_cmp nat_cmp) (λ (y : Index). same_list y.table t) nat_list_cmp_total xs i x in
    let free : counted {K = List ℕ} (slice_cmp nat_cmp) (λ (y : Index). same_list y.table t) (get xs i) ≡ 0 = ap (counted {K = List ℕ} (slice_cmp nat_cmp) (λ (y : Index). same_list y.table t)) none in
    go (same_list x.table t) refl counts free (few t)
  where
    go : (b : Bool) → same_list x.table t ≡ b
        → length (indexes_on (insert xs i x) t) + counted {K = List ℕ} (slice_cmp nat_cmp) (λ (y : Index). same_list y.table t) (get xs i) ≡ length (indexes_on xs t) + one (same_list x.table t)
        → counted {K = List ℕ} (slice_cmp nat_cmp) (λ (y : Index). same_list y.table t) (get xs i) ≡ 0 → length (indexes_on xs t) ≤ index_limit
        → length (indexes_on (insert xs i x) t) ≤ index_limit
    go true is counts free few =
        let more : one (same_list x.table t) ≡ 1 = ap one is ∙ one_true in
        let here : length (indexes_on xs t) ≡ length (indexes_on xs x.table) = ap (λ (q : List ℕ). length (indexes_on xs q)) (sym (list_from_same x.table t is)) in
        omega (arith, counts, free, more, here, room)
    go false is counts free few =
        let more : one (same_list x.table t) ≡ 0 = ap one is ∙ one_false in
        omega (arith, counts, free, more, few)

of_kind : (b : BuiltKind) (w : Wanted) (d : Defined) (ts : Tables) (t : List ℕ) (place : ℕ) → kinds.kind (new_index kinds (asked_for b w) d ts (target t place) w.prefs).body ≡ index_kind b
of_kind Context w d ts t place = refl
of_kind Catalogue w d ts t place = refl
of_kind Rules w d ts t place = refl

pub new_index_stands : (c : Content) (m : StoreState) (i t : List ℕ) (b : BuiltKind) (x : Table) (place : ℕ) (w : Wanted) → StandsForState c m → IsName i → IsPrefs w.prefs → are_sub_indexes w.subs ≡ true
    → list_all (list_all is_kept) w.subs ≡ true → IsFreeIndex m i t b x place w
    → StandsForState (after (spell (kinds.create_changes (asked_for b w) (named_thesauri m) (table_at m.tables t) i (target t place) w.prefs)) c) (with_new_index m i t b place w)
new_index_stands c m i t b x place w stands name are_prefs subs named free =
    let a = asked_for b w in
    let d = named_thesauri m in
    let here : table_at m.tables t ≡ x = ap table_or_none free.there in
    let ws = kinds.create_changes a d (table_at m.tables t) i (target t place) w.prefs in
    let few = either (nat_le index_limit (length (indexes_on m.indexes t))) (has_too_many_rows m t b w) free.few in
    let room : kinds.can_create (table_at m.tables t) a ≡ true = not_false (kinds.can_create (table_at m.tables t) a) few.1 in
    let taken = either (is_some (get m.indexes i)) (has_index_on (index_kind b) m.indexes t place) free.free in
    let none : get m.indexes i ≡ None = no_some (get m.indexes i) taken.0 in
    let asked : kinds.asks (table_at m.tables t) w.prefs a = may_ask b w (table_at m.tables t) subs named (ap (λ (y : Table). are_sub_columns y.columns w.subs) here ∙ free.subs) free.sections in
    let is_t = table_is m.tables t x stands.state.tables free.there in
    let table = stands.state.tables.names t x free.there in
    let on = target_of_texts m t x place free.there free.texts in
    indexes_changed c m ws (with_index kinds a d m.tables i (target t place) w.prefs m.indexes) stands (created_of w d (table_at m.tables t) i (target t place) b)
    (created_are w d (table_at m.tables t) i (target t place) is_t name table are_prefs b asked room)
    (created_short w d (table_at m.tables t) i (target t place) is_t name table are_prefs b (at c) room stands.short_rows)
    (create_stands kinds kinds_laws (at c) m.tables m.indexes a d i (target t place) w.prefs none on are_prefs asked room stands.state.tables stands.indexes)
    (create_keeps kinds kinds_laws m.tables m.indexes a d i (target t place) w.prefs name none on are_prefs
    (subst (IsFreeColumn kinds m.indexes (target t place)) (sym (of_kind b w d m.tables t place)) (column_free (index_kind b) m.indexes t place taken.1)) asked room stands.state.tables stands.state.indexes)
    (λ q. few_created m.indexes i (new_index kinds a d m.tables (target t place) w.prefs) none q (leb-false index_limit (length (indexes_on m.indexes t)) few.0) stands.state.few)
