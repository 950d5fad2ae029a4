-- The state after changes of the entries of indexes alone.
use Rattle.std.proofs.Common.{ℕ, ◌≤◌, List, length, Option, refl, sym, subst}
use Rattle.ct_keep.specs.Content.{Content, after}
use Rattle.ct_entry.specs.Keys.{HasKeysOnly, Key, at}
use Rattle.ct_entry.specs.Maps.{Names}
use Rattle.ct_entry.specs.Changes.{AllOf, AreChanges, spell, view}
use Rattle.ct_entry.specs.laws.Changes.{at_view, only-after}
use Rattle.tb_table.specs.Spelling.{TablesStand}
use Rattle.tb_table.specs.laws.Changes.{tables_frame}
use Rattle.ix_kinds.specs.Standing.{is_of_indexes}
use Rattle.ix_indexes.specs.Indexes.{AreIndexes, Index, IndexesStand}
use Rattle.tx_prefs.specs.Spelling.{PreferencesStand}
use Rattle.tx_prefs.specs.laws.Changes.{preferences_frame, other_kinds}
use Rattle.th_store.specs.laws.Changes.{thesauri_unchanged}
use Rattle.db_state.specs.States.{StoreState, StandsForState, HasShortRows, indexes_on, index_limit}
use Rattle.db_state.specs.laws.Kinds.{tables_no_indexes}

-- WHERE CHANGES ARE OF ENTRIES OF INDEXES, and leave no others than keys spell, and what they make stands for other indexes, the content stands for the state
-- with these.
pub indexes_left : (c : Content) (m : StoreState) (ws : List (Key × Option (List ℕ))) (xs : Names Index) → StandsForState c m → AllOf is_of_indexes ws → HasKeysOnly (after (spell ws) c) → HasShortRows (view ws (at c))
    → IndexesStand (view ws (at c)) m.tables xs → AreIndexes m.tables xs → ((t : List ℕ) → length (indexes_on xs t) ≤ index_limit) → StandsForState (after (spell ws) c) (record m { indexes = xs })
indexes_left c m ws xs stands of only short stand rules few = record {
  only = only;
  tables = subst (λ (f : Key → Option (List ℕ)). TablesStand f m.tables) (sym (at_view ws c)) (tables_frame is_of_indexes ws (at c) m.tables of tables_no_indexes stands.tables);
  indexes = subst (λ (f : Key → Option (List ℕ)). IndexesStand f m.tables xs) (sym (at_view ws c)) stand;
  preferences = subst (λ (f : Key → Option (List ℕ)). PreferencesStand f m.preferences) (sym (at_view ws c)) (preferences_frame is_of_indexes ws (at c) m.preferences of (other_kinds is_of_indexes refl refl refl refl) stands.preferences);
  thesauri = thesauri_unchanged is_of_indexes ws c m.thesauri of refl refl stands.thesauri;
  short_rows = subst HasShortRows (sym (at_view ws c)) short;
  state = record {
    tables = stands.state.tables;
    indexes = rules;
    views = stands.state.views;
    preferences = stands.state.preferences;
    thesauri = stands.state.thesauri;
    few = few;
  };
}

-- where the changes are on keys themselves
pub indexes_changed : (c : Content) (m : StoreState) (ws : List (Key × Option (List ℕ))) (xs : Names Index) → StandsForState c m → AllOf is_of_indexes ws → AreChanges ws → HasShortRows (view ws (at c))
    → IndexesStand (view ws (at c)) m.tables xs → AreIndexes m.tables xs → ((t : List ℕ) → length (indexes_on xs t) ≤ index_limit) → StandsForState (after (spell ws) c) (record m { indexes = xs })
indexes_changed c m ws xs stands of are short stand rules few = indexes_left c m ws xs stands of (only-after ws c stands.only are) short stand rules few
