-- The state after rows went.
use Rattle.std.proofs.Common.{◌≡◌, ℕ, ℤ, ◌≤◌, Bool, true, false, cond, List, [], ◌∷◌, ◌++◌, Option, Some, None, refl, sym, ap, subst, ◌∙◌, inl, inr, arith}
use Rattle.std.specs.Prelude.{is_some, ◌&&◌, ◌||◌}
use Rattle.std.specs.Option.{option_map}
use Rattle.std.specs.Ordering.{int_eq, nat_cmp, eq_by_cmp}
use Rattle.std.specs.Cmp.Lexicographic.{slice_cmp}
use Rattle.std.specs.FinMap.{get, remove, get-remove}
use Rattle.std.proofs.lemmas.Bool.{or_right}
use Rattle.std.proofs.lemmas.Cmp.{nat_list_cmp_total}
use Rattle.ct_keep.specs.Content.{Content, set_to, after, changes_weight, value_weight}
use Rattle.ct_keep.specs.laws.Content.{after-append}
use Rattle.ct_entry.specs.declared.kinds.Kind.{Kind}
use Rattle.ct_entry.specs.declared.kinds.Kind.TheVariants as kind
use Rattle.ct_entry.specs.Keys.{Key, HasKeysOnly, IsRow, at, bytes, same_list}
use Rattle.ct_entry.specs.laws.Keys.{list_same}
use Rattle.ct_entry.specs.Lists.{IsIn, AreApart}
use Rattle.ct_entry.specs.Each.{each}
use Rattle.ct_entry.specs.laws.Each.{all_each}
use Rattle.ct_entry.specs.Changes.{spell, view, AllOf}
use Rattle.ct_entry.specs.laws.Changes.{at_view, only-after, spell-append, view-append, all-append}
use Rattle.tb_table.specs.declared.columns.Column.{Column}
use Rattle.tb_table.specs.Tables.{Table, Tables, row_at, without_row}
use Rattle.tb_table.specs.Spelling.{TablesStand, text_places, drop_texts, delete_changes}
use Rattle.tb_table.specs.Rules.{AreTables}
use Rattle.tb_table.specs.laws.Changes.{is_of_tables, tables_frame}
use Rattle.tb_table.specs.laws.Removals.{get-without_row, row_at-without_row, columns-without_row, all_delete, stand_delete}
use Rattle.tb_table.specs.laws.Rules.{delete_keeps}
use Rattle.ix_kinds.specs.Rows.{table_at, RowChange}
use Rattle.ix_kinds.specs.Standing.{is_entry}
use Rattle.ix_kinds.specs.Statements.{tables_after, every, indexes_after, row_changes_at, untidying_for}
use Rattle.ix_kinds.specs.RowSteps.{AreSteps, IndexesHold}
use Rattle.ix_kinds.specs.laws.Tables.{differs, row_now}
use Rattle.ix_kinds.specs.laws.Turns.{lost_in_turn, row_is_row}
use Rattle.ix_indexes.specs.Indexes.{kinds, IndexesStand}
use Rattle.ix_indexes.specs.Noting.{AllDrop, Noted, all_noted_changes}
use Rattle.tx_prefs.specs.Spelling.{PreferencesStand}
use Rattle.tx_prefs.specs.laws.Changes.{preferences_frame, other_kinds}
use Rattle.th_store.specs.laws.Changes.{thesauri_unchanged}
use Rattle.db_state.specs.Entries.{Becomes, HaveSamePostings}
use Rattle.db_state.specs.laws.SamePostings.{same_by_notes, same_on}
use Rattle.db_state.specs.laws.ShortRows.{rows_frame}
use Rattle.db_state.specs.laws.Kinds.{tables_no_noted}
use Rattle.db_state.specs.States.{StoreState, StandsForState, HasShortRows, is_of_rows, is_view, index_limit}
use Rattle.db_change.specs.Noting.{names_on, noted_on}
use Rattle.db_change.specs.Deleting.{all_gone_changes, going, gone_row_changes, gone_rows_changes, without_rows}
use Rattle.db_change.specs.laws.IndexCounts.{few_after}
use Rattle.db_change.specs.laws.SamePlaces.{untidying_leaves}
use Rattle.db_change.specs.laws.LostRows.{lost_are, lost_is, lost_of, lost_tables}
use Rattle.db_change.specs.laws.NewRows.{indexes_hold, names_on_table}
use Rattle.db_change.specs.laws.NotedDocuments.{drops_put}
use Rattle.db_change.specs.laws.NewTables.{apart}
use Rattle.ix_context.specs.laws.ContextRows.{all_weaker}
use Rattle.ix_indexes.specs.laws.Indexes.{kinds_laws}
use Rattle.ix_indexes.specs.laws.Noting.{is_noted, notes_are_changes, notes_of}
use Rattle.ix_indexes.specs.laws.Dropping.{drop-append, drop_each, notes_drop}

-- ---- changes that only take entries away

-- they weigh nothing
pub drops_weigh_nothing : (ws : List (List ℕ × Option (List ℕ))) → AllDrop ws → changes_weight ws ≡ 0
drops_weigh_nothing [] all = refl
drops_weigh_nothing (w ∷ ws) all = let first : value_weight w.0 w.1 ≡ 0 = ap (value_weight w.0) all.0 in let rest = drops_weigh_nothing ws all.1 in omega (arith, first, rest)

-- and leave no other entries than there were
only_set : (m : Content) (j : List ℕ) (o : Option (List ℕ)) → o ≡ None → HasKeysOnly m → HasKeysOnly (set_to j o m)
only_set m j None none only b has = only b (go (eq_by_cmp (slice_cmp nat_cmp) b j) (sym (ap is_some (get-remove nat_list_cmp_total m j b)) ∙ has))
  where
    go : (t : Bool) → is_some (cond t None (get m b)) ≡ true → is_some (get m b) ≡ true
    go true h = cc
    go false h = h
only_set m j (Some v) none only b has = cc

drops_leave : (ws : List (Key × Option (List ℕ))) (m : Content) → AllDrop ws → HasKeysOnly m → HasKeysOnly (after (spell ws) m)
drops_leave [] m all only = only
drops_leave (w ∷ ws) m all only = drops_leave ws (set_to (bytes w.0) w.1 m) all.1 (only_set m (bytes w.0) w.1 all.0 only)

-- ---- those of rows

drop_texts_of : (t : List ℕ) (r : ℤ) (places : List ℕ) → AllDrop (drop_texts t r places)
drop_texts_of t r [] = tt
drop_texts_of t r (p ∷ ps) = (refl, drop_texts_of t r ps)

pub delete_drops : (t : List ℕ) (columns : List Column) (r : ℤ) → AllDrop (delete_changes t columns r)
delete_drops t columns r = (refl, drop_texts_of t r (text_places columns))

rows_drop : (f : Key → Option (List ℕ)) (ts : Tables) (t : List ℕ) (columns : List Column) (es : List (List ℕ × Noted)) (rows : List ℤ) → AllDrop (gone_rows_changes f ts t columns es rows)
rows_drop f ts t columns es rows =
    drop_each (gone_row_changes f ts t columns es)
    (λ r. drop-append (delete_changes t columns r) (all_noted_changes f (going r (row_at ts t r)) es) (delete_drops t columns r) (notes_drop f (going r (row_at ts t r)) es refl))
    rows

-- the kinds of the entries that go with a row
abbrev is_of_row : Kind → Bool
is_of_row kind.RowNumbers = true
is_of_row kind.RowTexts = true
is_of_row kind.DocumentRows = true
is_of_row kind.RowDocuments = true
is_of_row kind.Pending = true
is_of_row kind.Catalogue = true
is_of_row kind.Rules = true
is_of_row kind.Anchors = true
is_of_row kind.RuleFaults = true
is_of_row k = false

noted_of_row : (k : Kind) → is_noted k ≡ true → is_of_row k ≡ true
noted_of_row kind.DocumentRows h = refl
noted_of_row kind.RowDocuments h = refl
noted_of_row kind.Pending h = refl
noted_of_row kind.Catalogue h = refl
noted_of_row kind.Rules h = refl
noted_of_row kind.Anchors h = refl
noted_of_row kind.RuleFaults h = refl
noted_of_row k h = cc

all_texts : (t : List ℕ) (r : ℤ) (places : List ℕ) → AllOf is_of_row (drop_texts t r places)
all_texts t r [] = tt
all_texts t r (p ∷ ps) = (refl, all_texts t r ps)

all_rows : (f : Key → Option (List ℕ)) (ts : Tables) (t : List ℕ) (columns : List Column) (es : List (List ℕ × Noted)) (rows : List ℤ) → AllOf is_of_row (gone_rows_changes f ts t columns es rows)
all_rows f ts t columns es rows =
    all_each is_of_row (gone_row_changes f ts t columns es)
    (λ r.
    let c = going r (row_at ts t r) in
    all-append is_of_row (delete_changes t columns r) (all_noted_changes f c es) (refl, all_texts t r (text_places columns)) (all_weaker is_noted is_of_row noted_of_row (all_noted_changes f c es) (notes_of f c es)))
    rows

-- ---- the tables

abbrev lose_row : List ℕ → Tables → ℤ → Tables
lose_row t ts r = without_row ts t r

still_there : (ts : Tables) (t : List ℕ) (x : Table) (r : ℤ) → get ts t ≡ Some x → get (without_row ts t r) t ≡ Some (record x { rows = remove x.rows r })
still_there ts t x r here =
    get-without_row ts t r t
    ∙ ap (λ (b : Bool). cond b (option_map (λ (y : Table). record y { rows = remove y.rows r }) (get ts t)) (get ts t)) (list_same t)
    ∙ ap (option_map (λ (y : Table). record y { rows = remove y.rows r })) here

tables_without : (f : Key → Option (List ℕ)) (ts : Tables) (t : List ℕ) (x : Table) (notes : ℤ → List (Key × Option (List ℕ))) → ((r : ℤ) → AllOf is_noted (notes r)) → (rows : List ℤ)
    → get ts t ≡ Some x → AreTables ts → ((r : ℤ) → IsIn r rows → IsRow r) → TablesStand f ts
    → TablesStand (view (each (λ r. delete_changes t x.columns r ++ notes r) rows) f) (tables_after (lose_row t) ts rows)
tables_without f ts t x notes all [] here are each_row stand = stand
tables_without f ts t x notes all (r ∷ rows) here are each_row stand =
    let a = delete_changes t x.columns r in
    let b = notes r in
    let us = without_row ts t r in
    let one : TablesStand (view (a ++ b) f) us =
    subst (λ (g : Key → Option (List ℕ)). TablesStand g us) (sym (view-append a b f))
    (tables_frame is_noted b (view a f) us (all r) tables_no_noted (stand_delete f ts t r x here are (each_row r (inl refl)) stand)) in
    subst (λ (g : Key → Option (List ℕ)). TablesStand g (tables_after (lose_row t) us rows)) (sym (view-append (a ++ b) (each (λ r. delete_changes t x.columns r ++ notes r) rows) f))
    (tables_without (view (a ++ b) f) us t (record x { rows = remove x.rows r }) notes all rows (still_there ts t x r here) (delete_keeps ts t r are) (λ s later. each_row s (inr later)) one)

same_columns : (ts : Tables) (t : List ℕ) (rows : List ℤ) (q : List ℕ)
    → option_map (λ (y : Table). y.columns) (get (tables_after (lose_row t) ts rows) q) ≡ option_map (λ (y : Table). y.columns) (get ts q)
same_columns ts t [] q = refl
same_columns ts t (r ∷ rows) q = same_columns (without_row ts t r) t rows q ∙ columns-without_row ts t r q

no_views : (m : StoreState) (t : List ℕ) (rows : List ℤ) → ((q : List ℕ) (y : Table) → get m.tables q ≡ Some y → is_view q ≡ false)
    → (q : List ℕ) (y : Table) → get (tables_after (lose_row t) m.tables rows) q ≡ Some y → is_view q ≡ false
no_views m t rows views q y is = go (get m.tables q) refl (sym (same_columns m.tables t rows q) ∙ ap (option_map (λ (z : Table). z.columns)) is)
  where
    go : (o : Option Table) → get m.tables q ≡ o → option_map (λ (z : Table). z.columns) o ≡ Some y.columns → is_view q ≡ false
    go None here e = cc
    go (Some z) here e = views q z here

-- ---- the indexes

loses_each : (m : StoreState) (t : List ℕ) (rows : List ℤ) → AreSteps kinds (every kinds) m.tables (lose_row t) t (λ r. going r (row_at m.tables t r)) rows
loses_each m t rows ts r among awaits = record {
  rules = delete_keeps ts t r awaits.rules;
  differ = differs ts (without_row ts t r) t r None (columns-without_row ts t r) each;
  told = λ j. record { row = r; old = sym awaits.row j; new = sym (row_now ts (without_row ts t r) t r None each) j };
  unseen = λ x h. cc;
}
  where
    apart_tests : {X : Type 0} (a b : Bool) (o : Option X) → cond (a && b) None o ≡ cond a (cond b None o) o
    apart_tests true b o = refl
    apart_tests false b o = refl

    each : (q : List ℕ) (s : ℤ) → row_at (without_row ts t r) q s ≡ cond (same_list q t) (cond (int_eq s r) None (row_at ts q s)) (row_at ts q s)
    each q s = row_at-without_row ts t r q s ∙ apart_tests (same_list q t) (int_eq s r) (row_at ts q s)

-- ---- the state

-- the kinds of the entries that a DELETE of rows changes
abbrev is_of_loss : Kind → Bool
is_of_loss k = is_entry k || is_of_row k

of_row : (k : Kind) → is_of_row k ≡ true → is_of_loss k ≡ true
of_row k h = or_right (is_entry k) (is_of_row k) h

loss_rows : (k : Kind) → is_of_rows k ≡ true → is_of_loss k ≡ false
loss_rows kind.Postings h = refl
loss_rows kind.Spans h = refl
loss_rows k h = cc

row_rows : (k : Kind) → is_of_rows k ≡ true → is_of_row k ≡ false
row_rows kind.Postings h = refl
row_rows kind.Spans h = refl
row_rows k h = cc

module _ (c : Content) (m : StoreState) (t : List ℕ) (x : Table) (rows : List ℤ) (stands : StandsForState c m) (here : get m.tables t ≡ Some x)
    (once : AreApart rows) (there : (r : ℤ) → IsIn r rows → is_some (row_at m.tables t r) ≡ true) where
  abbrev es : List (List ℕ × Noted)
  es = noted_on m.indexes t

  abbrev names : List (List ℕ)
  names = names_on m.indexes t

  abbrev change : ℤ → RowChange
  change r = going r (row_at m.tables t r)

  -- what is put first, and of the rows
  abbrev first : List (Key × Option (List ℕ))
  first = untidying_for kinds (at c) m.indexes names rows

  abbrev later : List (Key × Option (List ℕ))
  later = gone_rows_changes (at c) m.tables t x.columns es rows

  is_row : (r : ℤ) → IsIn r rows → IsRow r
  is_row r among = row_is_row m.tables stands.state.tables t r (there r among)

  hold : IndexesHold kinds (view (first ++ later) (at c)) (tables_after (lose_row t) m.tables rows) (indexes_after kinds (every kinds) (lose_row t) m.tables t rows m.indexes)
  hold =
      let columns = (table_at m.tables t).columns in
      let told : first ++ each (λ r. delete_changes t x.columns r ++ each (row_changes_at kinds (at c) m.indexes columns (change r)) names) rows ≡ first ++ later =
      λ j. first ++ each (λ r. delete_changes t x.columns r ++ notes_are_changes (at c) m.indexes columns (change r) names j) rows in
      subst (λ (ws : List (Key × Option (List ℕ))). IndexesHold kinds (view ws (at c)) (tables_after (lose_row t) m.tables rows) (indexes_after kinds (every kinds) (lose_row t) m.tables t rows m.indexes)) told
      (lost_in_turn kinds kinds_laws (every kinds) (λ d n y. refl) t names (at c) m.indexes m.tables (lose_row t) change (λ r. refl) is_of_tables (λ r. delete_changes t x.columns r)
      (λ r. all_delete t x.columns r) apart rows (λ y. refl) there (loses_each m t rows) once is_row (names_on_table m.indexes t) (indexes_hold c m stands))

  all : AllOf is_of_loss (first ++ later)
  all =
      all-append is_of_loss first later
      (all_weaker is_entry is_of_loss (λ k h. ap (λ (b : Bool). b || is_of_row k) h) first (lost_of c m names rows))
      (all_weaker is_of_row is_of_loss of_row later (all_rows (at c) m.tables t x.columns es rows))

  -- other entries than there were don't come
  no_others : HasKeysOnly (after (spell (first ++ later)) c)
  no_others =
      subst HasKeysOnly (sym (ap (λ (ws : List (List ℕ × Option (List ℕ))). after ws c) (spell-append first later) ∙ after-append (spell first) (spell later) c))
      (drops_leave later (after (spell first) c) (rows_drop (at c) m.tables t x.columns es rows) (only-after first c stands.only (lost_are c m names stands rows)))

  tables_stand : TablesStand (view (first ++ later) (at c)) (tables_after (lose_row t) m.tables rows)
  tables_stand =
      subst (λ (f : Key → Option (List ℕ)). TablesStand f (tables_after (lose_row t) m.tables rows)) (sym (view-append first later (at c)))
      (tables_without (view first (at c)) m.tables t x (λ r. all_noted_changes (at c) (change r) es) (λ r. notes_of (at c) (change r) es) rows here stands.state.tables is_row (lost_tables c m names stands rows))

  -- after these rows of a table went, each of which is there once
  pub gone_rows_stand : StandsForState (after (spell (all_gone_changes c m t x.columns es rows)) c) (without_rows m t rows)
  gone_rows_stand =
      let ws = first ++ later in
      let us = tables_after (lose_row t) m.tables rows in
      let ys = indexes_after kinds (every kinds) (lose_row t) m.tables t rows m.indexes in
      let seen = at_view ws c in
      subst (λ (ws : List (Key × Option (List ℕ))). StandsForState (after (spell (ws ++ later)) c) (without_rows m t rows)) (lost_is c m names rows) (record {
        only = no_others;
        tables = subst (λ (f : Key → Option (List ℕ)). TablesStand f us) (sym seen) tables_stand;
        indexes = subst (λ (f : Key → Option (List ℕ)). IndexesStand f us ys) (sym seen) hold.stand;
        preferences = subst (λ (f : Key → Option (List ℕ)). PreferencesStand f m.preferences) (sym seen) (preferences_frame is_of_loss ws (at c) m.preferences all (other_kinds is_of_loss refl refl refl refl) stands.preferences);
        thesauri = thesauri_unchanged is_of_loss ws c m.thesauri all refl refl stands.thesauri;
        short_rows = subst HasShortRows (sym seen) (rows_frame is_of_loss ws (at c) all loss_rows stands.short_rows);
        state = record {
          tables = hold.tables;
          indexes = hold.rules;
          views = no_views m t rows stands.state.views;
          few = λ q. subst (λ (n : ℕ). n ≤ index_limit) (sym (few_after (every kinds) (lose_row t) m.tables t rows m.indexes q)) (stands.state.few q);
          preferences = stands.state.preferences;
          thesauri = stands.state.thesauri;
        };
      })

  -- and the indexes have their rows of postings as before
  gone_rows_leave : HaveSamePostings (without_rows m t rows) (at c) (view (first ++ later) (at c))
  gone_rows_leave =
      let n = without_rows m t rows in
      subst (HaveSamePostings n (at c)) (sym (view-append first later (at c)))
      (same_on n (at c) (view first (at c)) (view later (view first (at c)))
      (untidying_leaves c m n (every kinds) (lose_row t) t names (names_on_table m.indexes t) rows refl)
      (same_by_notes is_of_row later n (view first (at c)) (all_rows (at c) m.tables t x.columns es rows) row_rows refl (drops_put later (rows_drop (at c) m.tables t x.columns es rows))))

  pub gone_rows_become : Becomes (without_rows m t rows) c (after (spell (all_gone_changes c m t x.columns es rows)) c)
  gone_rows_become = record {
    stands = gone_rows_stand;
    keeps =
        subst (λ (ws : List (Key × Option (List ℕ))). HaveSamePostings (without_rows m t rows) (at c) (at (after (spell (ws ++ later)) c))) (lost_is c m names rows)
        (subst (HaveSamePostings (without_rows m t rows) (at c)) (sym (at_view (first ++ later) c)) gone_rows_leave);
  }
