-- The state after a table is dropped, and with it the indexes on it.
use Rattle.std.proofs.Common.{◌≡◌, ℕ, ◌≤◌, Bool, true, false, cond, List, length, Option, Some, None, refl, sym, ap, subst, ◌∙◌, arith}
use Rattle.std.specs.Prelude.{not, filter, is_some, ◌&&◌}
use Rattle.std.specs.Ordering.{nat_cmp}
use Rattle.std.specs.Cmp.Lexicographic.{slice_cmp}
use Rattle.std.specs.FinMap.{get, entries}
use Rattle.std.proofs.lemmas.Cmp.{nat_list_cmp_total}
use Rattle.ct_keep.specs.Content.{Content, after}
use Rattle.ct_keep.specs.laws.RisingKeys.{entries_rise}
use Rattle.ct_entry.specs.Keys.{Key, at, same_list}
use Rattle.ct_entry.specs.Maps.{Names}
use Rattle.ct_entry.specs.Changes.{spell, view}
use Rattle.ct_entry.specs.laws.Changes.{at_view, only-after, told_frame, view-append, are-append}
use Rattle.tb_table.specs.Tables.{Table, Tables, without_table}
use Rattle.tb_table.specs.Spelling.{TablesStand, remove_changes}
use Rattle.tb_table.specs.laws.Changes.{is_of_tables, tables_frame}
use Rattle.tb_table.specs.laws.Removals.{all_remove, are_remove, stand_remove, get-without_table}
use Rattle.tb_table.specs.laws.Rules.{remove_keeps}
use Rattle.ix_kinds.specs.Statements.{every, is_on, AreIndexesOn, without_indexes_on}
use Rattle.ix_kinds.specs.Drops.{HaveSameTablesBut, LosesIndexes}
use Rattle.ix_kinds.specs.laws.Drops.{get-without_indexes_on, is_of_table, drop_table_stands, drop_table_keeps}
use Rattle.ix_indexes.specs.Indexes.{Index, kinds, IndexesStand}
use Rattle.ix_indexes.specs.laws.Removing.{remove_all_loses, all_of_indexes, all_removals_are, told_all}
use Rattle.db_names.specs.laws.Pairs.{rises_filter}
use Rattle.tx_prefs.specs.Spelling.{PreferencesStand}
use Rattle.tx_prefs.specs.laws.Changes.{preferences_frame, other_kinds}
use Rattle.th_store.specs.Spelling.{ThesauriStand}
use Rattle.th_store.specs.laws.Changes.{others_leave_thesauri}
use Rattle.db_state.specs.States.{StoreState, StandsForState, HasShortRows, is_view, indexes_on, index_limit}
use Rattle.db_state.specs.Entries.{Becomes, HaveSamePostings}
use Rattle.db_state.specs.laws.SamePostings.{same_left}
use Rattle.db_state.specs.laws.ShortRows.{rows_frame, rows_left}
use Rattle.db_state.specs.laws.EachValue.{entries-from_rising}
use Rattle.db_state.specs.laws.Kinds.{tables_no_indexes}
use Rattle.db_state.specs.laws.Removing.{fewer_kept}
use Rattle.db_change.specs.Dropping.{with_table_dropped, drop_table_changes}
use Rattle.db_change.specs.laws.NewTables.{rows_tables, apart}
use Rattle.ix_kinds.specs.Standing.{is_of_indexes}
use Rattle.ix_indexes.specs.Removing.{remove_all_changes}
use Rattle.ix_indexes.specs.laws.Indexes.{kinds_laws}

-- ---- the state keeps its rules

others_same : (ts : Tables) (t : List ℕ) → HaveSameTablesBut ts (without_table ts t) t
others_same ts t q other = get-without_table ts t q ∙ ap (λ (b : Bool). cond b None (get ts q)) other

views_left : (m : StoreState) (t : List ℕ) → ((q : List ℕ) (x : Table) → get m.tables q ≡ Some x → is_view q ≡ false) → (q : List ℕ) (x : Table)
    → get (without_table m.tables t) q ≡ Some x → is_view q ≡ false
views_left m t views q x is = go (same_list q t) (sym (get-without_table m.tables t q) ∙ is)
  where
    go : (b : Bool) → cond b None (get m.tables q) ≡ Some x → is_view q ≡ false
    go true e = cc
    go false e = views q x e

-- a table has no more indexes than before
few_left : (xs : Names Index) (t q : List ℕ) → length (indexes_on xs q) ≤ index_limit → length (indexes_on (without_indexes_on xs t) q) ≤ index_limit
few_left xs t q few =
    let on_others : List ℕ × Index → Bool = λ e. not (same_list e.1.table t) in
    let left = entries-from_rising (slice_cmp nat_cmp) nat_list_cmp_total (filter on_others (entries xs)) (rises_filter (slice_cmp nat_cmp) on_others (entries xs) (entries_rise (slice_cmp nat_cmp) xs)) in
    let less = fewer_kept (λ (e : List ℕ × Index). same_list e.1.table q) on_others (entries xs) in
    let same = ap (λ (es : List (List ℕ × Index)). length (filter (λ e. same_list e.1.table q) es)) left in
    omega (arith, less, same, few)

-- ---- the entries

module _ (c : Content) (m : StoreState) (t : List ℕ) (names : List (List ℕ)) (on : AreIndexesOn kinds (every kinds) m.indexes t names) (stands : StandsForState c m) where
  -- what each key has once the table's own entries are gone
  abbrev of_tables_gone : Key → Option (List ℕ)
  of_tables_gone = view (remove_changes t c) (at c)

  abbrev all_gone : Key → Option (List ℕ)
  all_gone = view (remove_all_changes c names) of_tables_gone

  same_indexes : (k : Key) → is_of_indexes k.kind ≡ true → of_tables_gone k ≡ at c k
  same_indexes k of = told_frame is_of_tables (remove_changes t c) k (at c k) (all_remove t c) (apart k.kind of)

  -- a name is that of an index on the table
  all_on : (o : Option Index) → is_on kinds (every kinds) t o ≡ is_of_table t o
  all_on None = refl
  all_on (Some x) = go (same_list x.table t)
    where
      go : (b : Bool) → (b && true) ≡ b
      go true = refl
      go false = refl

  loses : LosesIndexes (λ q. is_of_table t (get m.indexes q)) (at c) all_gone
  loses =
      let lost = remove_all_loses names c of_tables_gone same_indexes in
      record {
        none = λ k of gone. lost.none k of (on.each k.owner ∙ all_on (get m.indexes k.owner) ∙ gone);
        others = λ k of other. lost.others k of (on.each k.owner ∙ all_on (get m.indexes k.owner) ∙ other) ∙ same_indexes k of;
      }

  pub dropped_stands : StandsForState (after (spell (drop_table_changes t c names)) c) (with_table_dropped m t)
  dropped_stands =
      let us = remove_changes t c in
      let vs = remove_all_changes c names in
      let ws = drop_table_changes t c names in
      let seen : at (after (spell ws) c) ≡ all_gone = at_view ws c ∙ view-append us vs (at c) in
      record {
        only = only-after ws c stands.only (are-append us vs (are_remove t c stands.only) (all_removals_are c names stands.only));
        tables = subst (λ (f : Key → Option (List ℕ)). TablesStand f (without_table m.tables t)) (sym seen)
            (tables_frame is_of_indexes vs of_tables_gone (without_table m.tables t) (all_of_indexes c names) tables_no_indexes
            (stand_remove (at c) m.tables t c (record { table = λ rest. refl; numbers = λ rest. refl; texts = λ rest. refl }) stands.tables));
        indexes = subst (λ (f : Key → Option (List ℕ)). IndexesStand f (without_table m.tables t) (without_indexes_on m.indexes t)) (sym seen)
            (drop_table_stands kinds kinds_laws (at c) all_gone m.tables (without_table m.tables t) m.indexes t loses (others_same m.tables t) stands.indexes);
        preferences = subst (λ (f : Key → Option (List ℕ)). PreferencesStand f m.preferences) (sym seen) (preferences_frame is_of_indexes vs of_tables_gone m.preferences (all_of_indexes c names) (other_kinds is_of_indexes refl refl refl refl) (preferences_frame is_of_tables us (at c) m.preferences (all_remove t c) (other_kinds is_of_tables refl refl refl refl) stands.preferences));
        thesauri = subst (λ (f : Key → Option (List ℕ)). ThesauriStand f m.thesauri) (sym seen)
            (others_leave_thesauri is_of_indexes vs of_tables_gone m.thesauri (all_of_indexes c names) refl refl (others_leave_thesauri is_of_tables us (at c) m.thesauri (all_remove t c) refl refl stands.thesauri));
        short_rows = subst HasShortRows (sym seen) (rows_left of_tables_gone all_gone (λ k v has. told_all c names k (of_tables_gone k) v has) (rows_frame is_of_tables us (at c) (all_remove t c) rows_tables stands.short_rows));
        state = record {
          tables = remove_keeps m.tables t stands.state.tables;
          indexes = drop_table_keeps kinds kinds_laws m.tables (without_table m.tables t) m.indexes t (others_same m.tables t) stands.state.indexes;
          views = views_left m t stands.state.views;
          few = λ q. few_left m.indexes t q (stands.state.few q);
          preferences = stands.state.preferences;
          thesauri = stands.state.thesauri;
        };
      }

  -- and all other indexes are as before
  pub dropped_becomes : Becomes (with_table_dropped m t) c (after (spell (drop_table_changes t c names)) c)
  dropped_becomes = record {
    stands = dropped_stands;
    keeps =
        subst (HaveSamePostings (with_table_dropped m t) (at c)) (sym (at_view (drop_table_changes t c names) c ∙ view-append (remove_changes t c) (remove_all_changes c names) (at c)))
        (same_left (with_table_dropped m t) (λ q. is_of_table t (get m.indexes q)) (at c) all_gone loses (λ i here. left i (is_of_table t (get m.indexes i)) refl here));
  }
    where
      left : (i : List ℕ) (b : Bool) → is_of_table t (get m.indexes i) ≡ b → is_some (get (without_indexes_on m.indexes t) i) ≡ true → b ≡ false
      left i true is here = let none : false ≡ true = sym (ap is_some (get-without_indexes_on m.indexes t i ∙ ap (λ (b : Bool). cond b None (get m.indexes i)) is)) ∙ here in cc
      left i false is here = refl
