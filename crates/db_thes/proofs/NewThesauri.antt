-- The state after a thesaurus is new, or has got one pair more.
use Rattle.std.proofs.Common.{◌≡◌, ℕ, true, false, List, length, Option, Some, None, refl, sym, subst}
use Rattle.std.specs.FinMap.{get, entries}
use Rattle.std.proofs.lemmas.Bool.{leb-false}
use Rattle.ct_base.specs.Names.{IsName}
use Rattle.ct_keep.specs.Content.{Content, after}
use Rattle.ct_entry.specs.declared.kinds.Kind.{Kind}
use Rattle.ct_entry.specs.declared.kinds.Kind.TheVariants as kind
use Rattle.ct_entry.specs.Keys.{Key, at}
use Rattle.ct_entry.specs.Changes.{AllOf, AreChanges, spell, view}
use Rattle.ct_entry.specs.laws.Changes.{at_view, only-after}
use Rattle.tb_table.specs.Spelling.{TablesStand}
use Rattle.tb_table.specs.laws.Changes.{is_of_tables, tables_frame}
use Rattle.ix_kinds.specs.Standing.{is_of_indexes}
use Rattle.ix_kinds.specs.laws.Standing.{indexes_frame}
use Rattle.ix_indexes.specs.Indexes.{kinds, IndexesStand}
use Rattle.ix_indexes.specs.laws.Indexes.{kinds_laws}
use Rattle.tx_prefs.specs.Spelling.{PreferencesStand}
use Rattle.tx_prefs.specs.laws.Changes.{preferences_frame, other_kinds}
use Rattle.th_graph.specs.Pairs.{stated_pair}
use Rattle.th_graph.specs.Relating.{is_known, pair_limit}
use Rattle.th_store.specs.Thesauri.{PairSet, Thesauri, pairs_of, with_pair, with_thesaurus}
use Rattle.th_store.specs.Spelling.{ThesauriStand, pair_changes, thesaurus_changes}
use Rattle.th_store.specs.Rules.{AreThesauri, is_term_text, thesaurus_limit}
use Rattle.th_store.specs.Promises.{is_of_thesauri}
use Rattle.th_store.specs.Sees.{is_at_pair_limit, is_at_thesaurus_limit}
use Rattle.th_store.specs.laws.Changes.{created_stands, related_stands}
use Rattle.th_store.specs.laws.Parts.{pair_is_part}
use Rattle.th_store.specs.laws.Rules.{created_stay, related_stay, stated_is_pair}
use Rattle.db_state.specs.Entries.{Becomes}
use Rattle.db_state.specs.laws.SamePostings.{becomes_by, same_beside}
use Rattle.db_state.specs.laws.ShortRows.{rows_frame}
use Rattle.db_state.specs.States.{HasShortRows, StoreState, StandsForState, is_of_rows}
use Rattle.db_thes.specs.declared.stating.StatedRelation.{StatedRelation}

-- ---- the kinds of entries

rows_thesauri : (k : Kind) → is_of_rows k ≡ true → is_of_thesauri k ≡ false
rows_thesauri kind.Thesauri h = cc
rows_thesauri kind.Relations h = cc
rows_thesauri k h = refl

tables_thesauri : (k : Kind) → is_of_tables k ≡ true → is_of_thesauri k ≡ false
tables_thesauri kind.Thesauri h = cc
tables_thesauri kind.Relations h = cc
tables_thesauri k h = refl

indexes_thesauri : (k : Kind) → is_of_indexes k ≡ true → is_of_thesauri k ≡ false
indexes_thesauri kind.Thesauri h = cc
indexes_thesauri kind.Relations h = cc
indexes_thesauri k h = refl

-- ---- other thesauri

-- Changes of entries of thesauri, after which these spell thesauri that keep their rules, leave all else.
thesauri_stand : (c : Content) (m : StoreState) (ts : Thesauri) (ws : List (Key × Option (List ℕ))) → StandsForState c m → AllOf is_of_thesauri ws → AreChanges ws → ThesauriStand (view ws (at c)) ts → AreThesauri ts
    → StandsForState (after (spell ws) c) (record m { thesauri = ts })
thesauri_stand c m ts ws stands of are stand rules = record {
  only = only-after ws c stands.only are;
  tables = subst (λ (f : Key → Option (List ℕ)). TablesStand f m.tables) (sym (at_view ws c)) (tables_frame is_of_thesauri ws (at c) m.tables of tables_thesauri stands.tables);
  indexes = subst (λ (f : Key → Option (List ℕ)). IndexesStand f m.tables m.indexes) (sym (at_view ws c)) (indexes_frame kinds kinds_laws.alone is_of_thesauri ws (at c) m.tables m.indexes of indexes_thesauri stands.indexes);
  preferences = subst (λ (f : Key → Option (List ℕ)). PreferencesStand f m.preferences) (sym (at_view ws c)) (preferences_frame is_of_thesauri ws (at c) m.preferences of (other_kinds is_of_thesauri refl refl refl refl) stands.preferences);
  thesauri = subst (λ (f : Key → Option (List ℕ)). ThesauriStand f ts) (sym (at_view ws c)) stand;
  short_rows = subst HasShortRows (sym (at_view ws c)) (rows_frame is_of_thesauri ws (at c) of rows_thesauri stands.short_rows);
  state = record {
    tables = stands.state.tables;
    indexes = stands.state.indexes;
    views = stands.state.views;
    few = stands.state.few;
    preferences = stands.state.preferences;
    thesauri = rules;
  };
}

thesauri_become : (c : Content) (m : StoreState) (ts : Thesauri) (ws : List (Key × Option (List ℕ))) → StandsForState c m → AllOf is_of_thesauri ws → AreChanges ws → ThesauriStand (view ws (at c)) ts → AreThesauri ts
    → Becomes (record m { thesauri = ts }) c (after (spell ws) c)
thesauri_become c m ts ws stands of are stand rules =
    becomes_by (record m { thesauri = ts }) ws c (thesauri_stand c m ts ws stands of are stand rules) (same_beside is_of_thesauri ws (record m { thesauri = ts }) (at c) of rows_thesauri refl refl refl)

module _ (c : Content) (m : StoreState) (name : List ℕ) (stands : StandsForState c m) where
  -- a new one, where there is room for one
  pub new_thesaurus_becomes : IsName name → get m.thesauri name ≡ None → is_at_thesaurus_limit m.thesauri ≡ false → Becomes (record m { thesauri = with_thesaurus m.thesauri name }) c (after (spell (thesaurus_changes name)) c)
  new_thesaurus_becomes is_name none room =
      thesauri_become c m (with_thesaurus m.thesauri name) (thesaurus_changes name) stands (refl, tt) (record { owner = is_name; part = refl }, tt)
      (created_stands (at c) m.thesauri name none stands.thesauri)
      (created_stay m.thesauri name stands.state.thesauri is_name (leb-false thesaurus_limit (length (entries m.thesauri)) room))

  -- a pair more, where it isn't known and there is room for it
  pub new_pair_becomes : (ps : PairSet) (s : StatedRelation) → get m.thesauri name ≡ Some ps → is_term_text s.first ≡ true → is_term_text s.second ≡ true → is_known s.relation s.first s.second (pairs_of ps) ≡ false → is_at_pair_limit ps ≡ false
      → Becomes (record m { thesauri = with_pair m.thesauri name (stated_pair s.relation s.first s.second) }) c (after (spell (pair_changes name (stated_pair s.relation s.first s.second))) c)
  new_pair_becomes ps s there first second unknown room =
      let p = stated_pair s.relation s.first s.second in
      let part = pair_is_part p (stated_is_pair s.relation s.first s.second first second) in
      thesauri_become c m (with_pair m.thesauri name p) (pair_changes name p) stands (refl, tt) (record { owner = stands.state.thesauri.names name ps there; part = part }, tt)
      (related_stands (at c) m.thesauri name ps p there stands.thesauri)
      (related_stay m.thesauri name ps s.relation s.first s.second there stands.state.thesauri first second unknown (leb-false pair_limit (length (entries ps)) room))
