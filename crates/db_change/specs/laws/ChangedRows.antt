-- The state after new values of rows.
use Rattle.std.proofs.Common.{◌≡◌, ℕ, ℤ, ◌≤◌, Bool, true, false, List, [], ◌∷◌, ◌++◌, length, Option, Some, None, refl, sym, ap, subst, ◌∙◌, arith, inl, inr}
use Rattle.std.specs.Prelude.{is_some, ◌||◌}
use Rattle.std.specs.List.{list_any}
use Rattle.std.specs.Option.{option_map}
use Rattle.std.specs.Ordering.{int_eq}
use Rattle.std.specs.FinMap.{get}
use Rattle.ct_base.specs.declared.lists.Value.{Value}
use Rattle.ct_base.specs.laws.Options.{option_map_some}
use Rattle.ct_keep.specs.Content.{Content, after}
use Rattle.ct_entry.specs.declared.kinds.Kind.{Kind}
use Rattle.ct_entry.specs.declared.kinds.Kind.TheVariants as kind
use Rattle.ct_entry.specs.Keys.{Key, at, same_list, IsRow}
use Rattle.ct_entry.specs.Each.{each}
use Rattle.ct_entry.specs.Lists.{IsIn, AreApart}
use Rattle.ct_entry.specs.Changes.{spell, view, AllPut, AreChanges, AllOf}
use Rattle.ct_entry.specs.laws.Changes.{at_view, only-after, view-append, are-append, all-append}
use Rattle.ct_entry.specs.laws.Each.{all_each}
use Rattle.tb_table.specs.declared.columns.Column.{Column}
use Rattle.tb_table.specs.Tables.{Table, Tables, row_in, row_at, numbers_of, with_row}
use Rattle.tb_table.specs.Spelling.{TablesStand, insert_changes}
use Rattle.tb_table.specs.Rules.{FitColumns, AreTables, others}
use Rattle.tb_table.specs.laws.Changes.{is_of_tables, all_insert, tables_frame, columns-with_row, row_at-with_row}
use Rattle.tb_table.specs.laws.Updates.{stand_update}
use Rattle.tb_table.specs.laws.Rules.{update_keeps}
use Rattle.tb_table.specs.laws.Well.{are_insert}
use Rattle.ix_kinds.specs.Rows.{RowChange, table_at, value_of_row}
use Rattle.ix_kinds.specs.Indextypes.{untidied_index}
use Rattle.ix_kinds.specs.Standing.{is_entry}
use Rattle.ix_kinds.specs.Statements.{tables_after, looks_at_any, AreIndexesOn, indexes_after, row_changes_at, untidying_for}
use Rattle.ix_kinds.specs.IndextypeLaws.{by_row}
use Rattle.ix_kinds.specs.RowSteps.{HaveSameColumns, DifferInRow, SetsColumns, AwaitsTurn, IsStep, AreSteps, IndexesHold}
use Rattle.ix_kinds.specs.laws.Tables.{and_false, differs, row_now as row_after, set_looks_alike, HasStill, has_still}
use Rattle.ix_kinds.specs.laws.Turns.{apart_test, lost_in_turn, row_is_row}
use Rattle.ix_indexes.specs.Indexes.{Index, kinds, IndexesStand}
use Rattle.ix_indexes.specs.Noting.{Noted, all_noted_changes, noted_named}
use Rattle.ix_indexes.specs.laws.Indexes.{kinds_laws}
use Rattle.ix_indexes.specs.laws.Noting.{is_noted, notes_are_changes, notes_of}
use Rattle.db_state.specs.laws.NoteKeys.{notes_are_keys}
use Rattle.db_change.specs.laws.IndexCounts.{few_after}
use Rattle.st_parse.specs.declared.statements.Assign.{Assign}
use Rattle.db_rows.specs.Values.{values_behind_key, row_values}
use Rattle.tx_prefs.specs.Spelling.{PreferencesStand}
use Rattle.tx_prefs.specs.laws.Changes.{preferences_frame, other_kinds}
use Rattle.th_store.specs.laws.Changes.{thesauri_unchanged}
use Rattle.db_state.specs.States.{StoreState, StandsForState, HasShortRows, is_of_rows, is_view, index_limit}
use Rattle.db_state.specs.laws.Kinds.{tables_no_noted}
use Rattle.db_state.specs.Entries.{Becomes, HaveSamePostings}
use Rattle.db_state.specs.laws.SamePostings.{same_by_notes, same_on}
use Rattle.db_state.specs.laws.ShortRows.{rows_frame}
use Rattle.db_change.specs.Updating.{all_update_changes, changing, updated_values, places_set, row_updated, with_updates, numbers_after, texts_set, value_changes, update_changes}
use Rattle.db_change.specs.laws.SamePlaces.{untidying_leaves}
use Rattle.db_change.specs.laws.NotedDocuments.{puts-append, puts_each, row_puts}
use Rattle.db_state.specs.laws.SamePostings.{NoDocument, puts_other}
use Rattle.db_change.specs.laws.LostRows.{lost_are, lost_is, lost_of, lost_tables}
use Rattle.db_change.specs.laws.NewRows.{indexes_hold}
use Rattle.db_change.specs.laws.NewTables.{apart}
use Rattle.std.proofs.lemmas.Bool.{or_right}
use Rattle.db_change.specs.laws.SetValues.{SetFits, values_fit, numbers_values, is_update, set_places, value_stays}
use Rattle.ix_context.specs.laws.ContextRows.{all_weaker}

-- ---- the kinds of the changes

-- the kinds of tables, and of what indexes are told
abbrev is_of_values : Kind → Bool
is_of_values k = is_of_tables k || is_noted k

-- and the own entries of indexes
abbrev is_of_update : Kind → Bool
is_of_update k = is_entry k || is_of_values k

of_entries : (k : Kind) → is_entry k ≡ true → is_of_update k ≡ true
of_entries k h = ap (λ (b : Bool). b || is_of_values k) h

of_tables : (k : Kind) → is_of_tables k ≡ true → is_of_values k ≡ true
of_tables k h = ap (λ (b : Bool). b || is_noted k) h

of_noted : (k : Kind) → is_noted k ≡ true → is_of_values k ≡ true
of_noted k h = or_right (is_of_tables k) (is_noted k) h

of_values : (k : Kind) → is_of_values k ≡ true → is_of_update k ≡ true
of_values k h = or_right (is_entry k) (is_of_values k) h

values_rows : (k : Kind) → is_of_rows k ≡ true → is_of_values k ≡ false
values_rows kind.Postings h = refl
values_rows kind.Spans h = refl
values_rows k h = cc

update_rows : (k : Kind) → is_of_rows k ≡ true → is_of_update k ≡ false
update_rows kind.Postings h = refl
update_rows kind.Spans h = refl
update_rows k h = cc

-- ---- the same columns

alike_with_row : (ts : Tables) (t : List ℕ) (r : ℤ) (vs : List Value) → HaveSameColumns ts (with_row ts t r vs)
alike_with_row ts t r vs q = go (get ts t) refl
  where
    go : (o : Option Table) → get ts t ≡ o → option_map (λ (y : Table). y.columns) (get (with_row ts t r vs) q) ≡ option_map (λ (y : Table). y.columns) (get ts q)
    go None is = rw is refl
    go (Some x) is = columns-with_row ts t r vs x is q

alike_after : (t : List ℕ) (columns : List Column) (assigns : List Assign) (rows : List ℤ) (ts : Tables) → HaveSameColumns ts (tables_after (row_updated t columns assigns) ts rows)
alike_after t columns assigns [] ts q = refl
alike_after t columns assigns (r ∷ rows) ts q =
    alike_after t columns assigns rows (row_updated t columns assigns ts r) q ∙ alike_with_row ts t r (updated_values (others columns) assigns (row_values ts t r)) q

-- ---- the rows of a statement

module _ (c : Content) (m : StoreState) (t : List ℕ) (x : Table) (assigns : List Assign) (names : List (List ℕ)) (stands : StandsForState c m) (here : get m.tables t ≡ Some x) (set : SetFits assigns (others x.columns))
    (on : AreIndexesOn kinds (looks_at_any kinds (places_set x.columns assigns)) m.indexes t names) where
  -- what is needed of the indexes
  abbrev es : List (List ℕ × Noted)
  es = noted_named m.indexes names

  abbrev columns : List Column
  columns = others x.columns

  abbrev places : List ℕ
  places = places_set x.columns assigns

  abbrev step : Tables → ℤ → Tables
  step ts r = row_updated t x.columns assigns ts r

  abbrev own : ℤ → List (Key × Option (List ℕ))
  own r = value_changes t columns assigns (numbers_of (row_values m.tables t r)) r

  -- a row as UPDATE tells of it
  abbrev change : ℤ → RowChange
  change r = changing columns assigns r (row_at m.tables t r)

  abbrev notes : ℤ → List (Key × Option (List ℕ))
  notes r = all_noted_changes (at c) (change r) es

  -- a row that is there, as its turn comes
  record Turn (ts : Tables) (r : ℤ) : Type 0 where
    old : List Value
    first : row_at m.tables t r ≡ Some old
    still : HasStill x old ts t r
    fit : FitColumns columns old

  turn : (ts : Tables) (r : ℤ) → is_some (row_at m.tables t r) ≡ true → AwaitsTurn m.tables ts t r → Turn ts r
  turn ts r there awaits = go (get x.rows r) refl (sym (ap (λ (o : Option Table). is_some (row_in o r)) here) ∙ there)
    where
      go : (o : Option (List Value)) → get x.rows r ≡ o → is_some o ≡ true → Turn ts r
      go None row there = cc
      go (Some old) row there = record {
        old = old;
        first = ap (λ (o : Option Table). row_in o r) here ∙ row;
        still = has_still m.tables ts t r x old here row awaits;
        fit = (stands.state.tables.each t x here).rows r old row;
      }

  module _ (ts : Tables) (r : ℤ) (at_turn : Turn ts r) where
    abbrev new : List Value
    new = updated_values columns assigns at_turn.old

    row_now : row_at ts t r ≡ Some at_turn.old
    row_now = ap (λ (o : Option Table). row_in o r) at_turn.still.here ∙ at_turn.still.row

    step_is : step ts r ≡ with_row ts t r new
    step_is = ap (λ (o : Option (List Value)). with_row ts t r (updated_values columns assigns (values_behind_key o))) row_now

    own_is : insert_changes t r (numbers_of new) (texts_set 1 columns assigns) ≡ own r
    own_is =
        ap (λ (ns : List ℤ). insert_changes t r ns (texts_set 1 columns assigns))
        (numbers_values assigns columns at_turn.old at_turn.fit set ∙ ap (λ (o : Option (List Value)). numbers_after columns assigns (numbers_of (values_behind_key o))) (sym at_turn.first))

    differ : DifferInRow ts (with_row ts t r new) t r
    differ = differs ts (with_row ts t r new) t r (Some new) (columns-with_row ts t r new at_turn.still.table at_turn.still.here) (row_at-with_row ts t r new at_turn.still.table at_turn.still.here)

    has_it : row_at (with_row ts t r new) t r ≡ Some new
    has_it = row_after ts (with_row ts t r new) t r (Some new) (row_at-with_row ts t r new at_turn.still.table at_turn.still.here)

    sets : SetsColumns ts (with_row ts t r new) t places r
    sets = record {
      was = ap is_some row_now;
      there = ap is_some has_it;
      values = λ column other.
          ap (λ (o : Option (List Value)). value_of_row o column) has_it
          ∙ value_stays x.columns assigns at_turn.old (stands.state.tables.each t x here).columns.apart at_turn.fit column other
          ∙ sym (ap (λ (o : Option (List Value)). value_of_row o column) row_now);
    }

    is_step : AwaitsTurn m.tables ts t r → IsStep kinds (looks_at_any kinds places) ts (step ts r) t (change r)
    is_step awaits =
        let still = at_turn.still in
        subst (λ (us : Tables). IsStep kinds (looks_at_any kinds places) ts us t (change r)) (sym step_is) (record {
          rules = update_keeps ts t r at_turn.old new still.table awaits.rules still.here still.row (subst (λ (cs : List Column). FitColumns (others cs) new) (sym still.columns) (values_fit assigns columns at_turn.old at_turn.fit set));
          differ = differ;
          told = let same = ap (λ (o : Option (List Value)). Some (updated_values columns assigns (values_behind_key o))) at_turn.first ∙ sym has_it in λ j. record { row = r; old = sym awaits.row j; new = same j };
          unseen = λ y unseen. set_looks_alike ts (with_row ts t r new) t places r (kinds.looks y) differ sets unseen;
        })

    stands_then : (f : Key → Option (List ℕ)) → IsRow r → TablesStand f ts → TablesStand (view (own r ++ notes r) f) (step ts r)
    stands_then f row stand =
        subst (λ (g : Key → Option (List ℕ)). TablesStand g (step ts r)) (sym (view-append (own r) (notes r) f))
        (tables_frame is_noted (notes r) (view (own r) f) (step ts r) (notes_of (at c) (change r) es) tables_no_noted
        (subst (λ (ws : List (Key × Option (List ℕ))). TablesStand (view ws f) (step ts r)) own_is
        (subst (TablesStand (view (insert_changes t r (numbers_of new) (texts_set 1 columns assigns)) f)) (sym step_is)
        (stand_update f ts t r at_turn.old new (texts_set 1 columns assigns) row_now row (is_update assigns columns at_turn.old at_turn.fit set) stand))))

  are_steps : (rows : List ℤ) → ((r : ℤ) → IsIn r rows → is_some (row_at m.tables t r) ≡ true) → AreSteps kinds (looks_at_any kinds places) m.tables step t change rows
  are_steps rows there ts r among awaits = is_step ts r (turn ts r (there r among) awaits) awaits

  -- ---- the tables, row by row

  tables_stand : (rows : List ℤ) → AreApart rows → ((r : ℤ) → IsIn r rows → is_some (row_at m.tables t r) ≡ true)
      → (f : Key → Option (List ℕ)) (ts : Tables) → AreTables ts → HaveSameColumns m.tables ts
      → ((r : ℤ) → IsIn r rows → row_at ts t r ≡ row_at m.tables t r) → TablesStand f ts → TablesStand (view (each (λ r. own r ++ notes r) rows) f) (tables_after step ts rows)
  tables_stand [] distinct there f ts rules alike same stand = stand
  tables_stand (r ∷ rows) distinct there f ts rules alike same stand =
      let awaits : AwaitsTurn m.tables ts t r = record { rules = rules; alike = alike; row = same r (inl refl) } in
      let at_turn = turn ts r (there r (inl refl)) awaits in
      let next = is_step ts r at_turn awaits in
      let row = row_is_row m.tables stands.state.tables t r (there r (inl refl)) in
      subst (λ (g : Key → Option (List ℕ)). TablesStand g (tables_after step (step ts r) rows)) (sym (view-append (own r ++ notes r) (each (λ r. own r ++ notes r) rows) f))
      (tables_stand rows distinct.1 (λ s later. there s (inr later)) (view (own r ++ notes r) f) (step ts r) next.rules (λ q. next.differ.alike q ∙ alike q)
      (λ s later. next.differ.others t s (and_false (same_list t t) (int_eq s r) (apart_test r s rows distinct.0 later)) ∙ same s (inr later))
      (stands_then ts r at_turn f row stand))

  -- ---- the changes

  -- none of them gives a row the number of a document
  updates_put : (rows : List ℤ) → AllPut NoDocument (update_changes c m t columns assigns es rows)
  updates_put rows =
      puts_each (λ r. own r ++ notes r)
      (λ r. puts-append (own r) (notes r)
      (puts_other is_of_tables (own r) (all_insert t r (numbers_after columns assigns (numbers_of (row_values m.tables t r))) (texts_set 1 columns assigns)) refl refl)
      (subst (AllPut NoDocument) (notes_are_changes (at c) m.indexes (table_at m.tables t).columns (change r) names)
      (puts_each (row_changes_at kinds (at c) m.indexes (table_at m.tables t).columns (change r)) (λ i. row_puts (at c) (table_at m.tables t).columns (change r) i m.indexes) names))) rows

  updates_kinds : (rows : List ℤ) → AllOf is_of_values (update_changes c m t columns assigns es rows)
  updates_kinds rows =
      all_each is_of_values (λ r. own r ++ notes r)
      (λ r. all-append is_of_values (own r) (notes r)
      (all_weaker is_of_tables is_of_values of_tables (own r) (all_insert t r (numbers_after columns assigns (numbers_of (row_values m.tables t r))) (texts_set 1 columns assigns)))
      (all_weaker is_noted is_of_values of_noted (notes r) (notes_of (at c) (change r) es))) rows

  -- as the kinds of the indexes have them
  abbrev kind_notes : ℤ → List (Key × Option (List ℕ))
  kind_notes r = each (row_changes_at kinds (at c) m.indexes (table_at m.tables t).columns (change r)) names

  kind_notes_are : (r : ℤ) → kind_notes r ≡ notes r
  kind_notes_are r = notes_are_changes (at c) m.indexes (table_at m.tables t).columns (change r) names

  notes_are : (r : ℤ) → is_some (row_at m.tables t r) ≡ true → IsRow r → AreChanges (notes r)
  notes_are r there row =
      let awaits : AwaitsTurn m.tables m.tables t r = record { rules = stands.state.tables; alike = λ q. refl; row = refl } in
      let next = is_step m.tables r (turn m.tables r there awaits) awaits in
      subst AreChanges (kind_notes_are r)
      (subst (λ (d : RowChange). AreChanges (each (row_changes_at kinds (at c) m.indexes (table_at m.tables t).columns d) names)) (sym next.told)
      (notes_are_keys (at c) m.tables (step m.tables r) m.indexes t r (indexes_hold c m stands) next.rules next.differ row (table_at m.tables t).columns (looks_at_any kinds places) names on))

  updates_are : (rows : List ℤ) → ((r : ℤ) → IsIn r rows → is_some (row_at m.tables t r) ≡ true) → AreChanges (update_changes c m t columns assigns es rows)
  updates_are [] there = tt
  updates_are (r ∷ rows) there =
      let row = row_is_row m.tables stands.state.tables t r (there r (inl refl)) in
      let few = (stands.state.tables.each t x here).columns.few in
      let fewer = few_others x.columns in
      are-append (own r ++ notes r) (update_changes c m t columns assigns es rows)
      (are-append (own r) (notes r)
      (are_insert t r (numbers_after columns assigns (numbers_of (row_values m.tables t r))) (texts_set 1 columns assigns) (stands.state.tables.names t x here) row (set_places assigns 1 columns (omega (arith, few, fewer))))
      (notes_are r (there r (inl refl)) row))
      (updates_are rows (λ s later. there s (inr later)))
    where
      few_others : (cs : List Column) → length (others cs) ≤ length cs
      few_others [] = omega arith
      few_others (c ∷ cs) = omega arith

  -- ---- the state

  module _ (rows : List ℤ) (distinct : AreApart rows) (there : (r : ℤ) → IsIn r rows → is_some (row_at m.tables t r) ≡ true) where
    -- what is put first, and for the rows
    abbrev first : List (Key × Option (List ℕ))
    first = untidying_for kinds (at c) m.indexes names rows

    abbrev later : List (Key × Option (List ℕ))
    later = update_changes c m t columns assigns es rows

    as_told : first ++ each (λ r. own r ++ kind_notes r) rows ≡ first ++ later
    as_told = λ j. first ++ each (λ r. own r ++ kind_notes_are r j) rows

    -- a row leaves to an index at which columns it looks
    stays : (d : RowChange) (n : ℕ) (y : Index) → looks_at_any kinds places (by_row kinds d n y) ≡ looks_at_any kinds places y
    stays d n y = λ j. list_any (λ (column : ℕ). (kinds_laws.rows.same d n y).looks column j) places

    -- and an index looks at the same once it isn't tidy
    stays_untidy : (y : Index) → looks_at_any kinds places (untidied_index kinds y) ≡ looks_at_any kinds places y
    stays_untidy y = λ j. list_any (λ (column : ℕ). (kinds_laws.untidies.same y).looks column j) places

    hold : IndexesHold kinds (view (first ++ later) (at c)) (tables_after step m.tables rows) (indexes_after kinds (looks_at_any kinds places) step m.tables t rows m.indexes)
    hold =
        subst (λ (ws : List (Key × Option (List ℕ))). IndexesHold kinds (view ws (at c)) (tables_after step m.tables rows) (indexes_after kinds (looks_at_any kinds places) step m.tables t rows m.indexes)) as_told
        (lost_in_turn kinds kinds_laws (looks_at_any kinds places) stays t names (at c) m.indexes m.tables step change (λ r. refl) is_of_tables own
        (λ r. all_insert t r (numbers_after columns assigns (numbers_of (row_values m.tables t r))) (texts_set 1 columns assigns)) apart
        rows stays_untidy there (are_steps rows there) distinct (λ r among. row_is_row m.tables stands.state.tables t r (there r among)) on (indexes_hold c m stands))

    views_stay : (q : List ℕ) (y : Table) → get (tables_after step m.tables rows) q ≡ Some y → is_view q ≡ false
    views_stay q y is =
        let was = option_map_some (λ (z : Table). z.columns) (get m.tables q) y.columns (sym (alike_after t x.columns assigns rows m.tables q) ∙ ap (option_map (λ (z : Table). z.columns)) is) in
        stands.state.views q was.0 was.1

    all : AllOf is_of_update (first ++ later)
    all = all-append is_of_update first later (all_weaker is_entry is_of_update of_entries first (lost_of c m names rows)) (all_weaker is_of_values is_of_update of_values later (updates_kinds rows))

    are : AreChanges (first ++ later)
    are = are-append first later (lost_are c m names stands rows) (updates_are rows there)

    tables_stood : TablesStand (view (first ++ later) (at c)) (tables_after step m.tables rows)
    tables_stood =
        subst (λ (f : Key → Option (List ℕ)). TablesStand f (tables_after step m.tables rows)) (sym (view-append first later (at c)))
        (tables_stand rows distinct there (view first (at c)) m.tables stands.state.tables (λ q. refl) (λ r among. refl) (lost_tables c m names stands rows))

    pub changed_rows_stand : StandsForState (after (spell (all_update_changes c m t columns assigns es rows)) c) (with_updates m t x.columns assigns rows)
    changed_rows_stand =
        let ws = first ++ later in
        let us = tables_after step m.tables rows in
        let ys = indexes_after kinds (looks_at_any kinds places) step m.tables t rows m.indexes in
        subst (λ (ws : List (Key × Option (List ℕ))). StandsForState (after (spell (ws ++ later)) c) (with_updates m t x.columns assigns rows)) (lost_is c m names rows) (record {
          only = only-after ws c stands.only are;
          tables = subst (λ (f : Key → Option (List ℕ)). TablesStand f us) (sym (at_view ws c)) tables_stood;
          indexes = subst (λ (f : Key → Option (List ℕ)). IndexesStand f us ys) (sym (at_view ws c)) hold.stand;
          preferences = subst (λ (f : Key → Option (List ℕ)). PreferencesStand f m.preferences) (sym (at_view ws c)) (preferences_frame is_of_update ws (at c) m.preferences all (other_kinds is_of_update refl refl refl refl) stands.preferences);
          thesauri = thesauri_unchanged is_of_update ws c m.thesauri all refl refl stands.thesauri;
          short_rows = subst HasShortRows (sym (at_view ws c)) (rows_frame is_of_update ws (at c) all update_rows stands.short_rows);
          state = record {
            tables = hold.tables;
            indexes = hold.rules;
            views = views_stay;
            few = λ q. subst (λ (n : ℕ). n ≤ index_limit) (sym (few_after (looks_at_any kinds places) step m.tables t rows m.indexes q)) (stands.state.few q);
            preferences = stands.state.preferences;
            thesauri = stands.state.thesauri;
          };
        })

    -- and the indexes have their rows of postings as before
    changed_rows_leave : HaveSamePostings (with_updates m t x.columns assigns rows) (at c) (view (first ++ later) (at c))
    changed_rows_leave =
        let n = with_updates m t x.columns assigns rows in
        subst (HaveSamePostings n (at c)) (sym (view-append first later (at c)))
        (same_on n (at c) (view first (at c)) (view later (view first (at c)))
        (untidying_leaves c m n (looks_at_any kinds places) step t names on rows refl)
        (same_by_notes is_of_values later n (view first (at c)) (updates_kinds rows) values_rows refl (updates_put rows)))

    pub changed_rows_become : Becomes (with_updates m t x.columns assigns rows) c (after (spell (all_update_changes c m t columns assigns es rows)) c)
    changed_rows_become = record {
      stands = changed_rows_stand;
      keeps =
          subst (λ (ws : List (Key × Option (List ℕ))). HaveSamePostings (with_updates m t x.columns assigns rows) (at c) (at (after (spell (ws ++ later)) c))) (lost_is c m names rows)
          (subst (HaveSamePostings (with_updates m t x.columns assigns rows) (at c)) (sym (at_view (first ++ later) c)) changed_rows_leave);
    }
