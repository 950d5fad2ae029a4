-- The state after a preference, a stoplist, a section group or an index set has got another value, or is new.
use Rattle.std.proofs.Common.{◌≡◌, ℕ, ◌<◌, Bool, true, false, List, [], length, Option, Some, refl, sym, subst}
use Rattle.std.specs.Prelude.{nat_le}
use Rattle.std.specs.FinMap.{get, insert, entries}
use Rattle.std.proofs.lemmas.Bool.{leb-false}
use Rattle.ct_base.specs.Names.{IsName}
use Rattle.ct_keep.specs.Content.{Content, after}
use Rattle.ct_entry.specs.declared.kinds.Kind.{Kind}
use Rattle.ct_entry.specs.declared.kinds.Kind.TheVariants as kind
use Rattle.ct_entry.specs.Keys.{Key, at}
use Rattle.ct_entry.specs.Changes.{AllOf, AreChanges, spell, view}
use Rattle.ct_entry.specs.laws.Changes.{at_view, only-after}
use Rattle.tb_table.specs.Spelling.{TablesStand}
use Rattle.tb_table.specs.laws.Changes.{is_of_tables, tables_frame}
use Rattle.ix_kinds.specs.Standing.{is_of_indexes}
use Rattle.ix_kinds.specs.laws.Standing.{indexes_frame}
use Rattle.ix_indexes.specs.Indexes.{kinds, IndexesStand}
use Rattle.tx_tags.specs.Groups.{SectionGroup as Group, no_sections}
use Rattle.tx_settings.specs.declared.attributes.Setting.{Setting}
use Rattle.tx_settings.specs.PrefsBytes.{is_named_group, are_lexer_settings}
use Rattle.tx_sets.specs.Sets.{is_index_set}
use Rattle.tx_prefs.specs.declared.kinds.PrefKind.{PrefKind}
use Rattle.tx_prefs.specs.declared.kinds.PrefKind.TheVariants.{Lexer, Stoplist, SectionGroup, IndexSet}
use Rattle.tx_prefs.specs.Preferences.{Preferences, with_lexer, with_stoplist, with_group, with_index_set}
use Rattle.tx_prefs.specs.Spelling.{PreferencesStand, lexer_changes, stoplist_changes, group_changes, set_changes}
use Rattle.tx_prefs.specs.Rules.{AreNamed, ArePreferences, are_stopwords, preference_limit}
use Rattle.tx_prefs.specs.Sees.{is_kind_full}
use Rattle.tx_prefs.specs.laws.Changes.{is_of_preferences, lexer_stands, stoplist_stands, group_stands, set_stands}
use Rattle.tx_prefs.specs.laws.Rules.{named_more, named_again}
use Rattle.th_store.specs.laws.Changes.{thesauri_unchanged}
use Rattle.db_state.specs.Entries.{Becomes}
use Rattle.db_state.specs.laws.SamePostings.{becomes_by, same_beside}
use Rattle.db_state.specs.laws.ShortRows.{rows_frame}
use Rattle.db_state.specs.States.{HasShortRows, StoreState, StandsForState, is_of_rows}
use Rattle.db_prefs.specs.Defining.{new_changes, with_new}
use Rattle.ix_indexes.specs.laws.Indexes.{kinds_laws}

-- what is read of preferences
-- ---- the kinds of entries

rows_preferences : (k : Kind) → is_of_rows k ≡ true → is_of_preferences k ≡ false
rows_preferences kind.Preferences h = cc
rows_preferences kind.Stoplists h = cc
rows_preferences kind.SectionGroups h = cc
rows_preferences kind.IndexSets h = cc
rows_preferences k h = refl

tables_preferences : (k : Kind) → is_of_tables k ≡ true → is_of_preferences k ≡ false
tables_preferences kind.Preferences h = cc
tables_preferences kind.Stoplists h = cc
tables_preferences kind.SectionGroups h = cc
tables_preferences kind.IndexSets h = cc
tables_preferences k h = refl

indexes_preferences : (k : Kind) → is_of_indexes k ≡ true → is_of_preferences k ≡ false
indexes_preferences kind.Preferences h = cc
indexes_preferences kind.Stoplists h = cc
indexes_preferences kind.SectionGroups h = cc
indexes_preferences kind.IndexSets h = cc
indexes_preferences k h = refl

-- ---- other preferences

-- Changes of entries of preferences, after which these spell preferences that keep their rules, leave all else.
module _ (c : Content) (m : StoreState) (ps : Preferences) (ws : List (Key × Option (List ℕ))) where
  preferences_stand : StandsForState c m → AllOf is_of_preferences ws → AreChanges ws → PreferencesStand (view ws (at c)) ps → ArePreferences ps
      → StandsForState (after (spell ws) c) (record m { preferences = ps })
  preferences_stand stands of are stand rules = record {
    only = only-after ws c stands.only are;
    tables = subst (λ (f : Key → Option (List ℕ)). TablesStand f m.tables) (sym (at_view ws c)) (tables_frame is_of_preferences ws (at c) m.tables of tables_preferences stands.tables);
    indexes = subst (λ (f : Key → Option (List ℕ)). IndexesStand f m.tables m.indexes) (sym (at_view ws c)) (indexes_frame kinds kinds_laws.alone is_of_preferences ws (at c) m.tables m.indexes of indexes_preferences stands.indexes);
    preferences = subst (λ (f : Key → Option (List ℕ)). PreferencesStand f ps) (sym (at_view ws c)) stand;
    thesauri = thesauri_unchanged is_of_preferences ws c m.thesauri of refl refl stands.thesauri;
    short_rows = subst HasShortRows (sym (at_view ws c)) (rows_frame is_of_preferences ws (at c) of rows_preferences stands.short_rows);
    state = record {
      tables = stands.state.tables;
      indexes = stands.state.indexes;
      views = stands.state.views;
      few = stands.state.few;
      preferences = rules;
      thesauri = stands.state.thesauri;
    };
  }

  preferences_become : StandsForState c m → AllOf is_of_preferences ws → AreChanges ws → PreferencesStand (view ws (at c)) ps → ArePreferences ps → Becomes (record m { preferences = ps }) c (after (spell ws) c)
  preferences_become stands of are stand rules =
      becomes_by (record m { preferences = ps }) ws c (preferences_stand stands of are stand rules) (same_beside is_of_preferences ws (record m { preferences = ps }) (at c) of rows_preferences refl refl refl)

module _ (c : Content) (m : StoreState) (name : List ℕ) (stands : StandsForState c m) where
  rules : ArePreferences m.preferences
  rules = stands.state.preferences

  lexer_put : (settings : List Setting) → IsName name → AreNamed are_lexer_settings (insert m.preferences.lexers name settings)
      → Becomes (record m { preferences = with_lexer m.preferences name settings }) c (after (spell (lexer_changes name settings)) c)
  lexer_put settings is_name are =
      preferences_become c m (with_lexer m.preferences name settings) (lexer_changes name settings) stands (refl, tt) (record { owner = is_name; part = refl }, tt)
      (lexer_stands (at c) m.preferences name settings stands.preferences) (record { lexers = are; stoplists = rules.stoplists; groups = rules.groups; sets = rules.sets })

  stoplist_put : (words : List (List ℕ)) → IsName name → AreNamed are_stopwords (insert m.preferences.stoplists name words)
      → Becomes (record m { preferences = with_stoplist m.preferences name words }) c (after (spell (stoplist_changes name words)) c)
  stoplist_put words is_name are =
      preferences_become c m (with_stoplist m.preferences name words) (stoplist_changes name words) stands (refl, tt) (record { owner = is_name; part = refl }, tt)
      (stoplist_stands (at c) m.preferences name words stands.preferences) (record { lexers = rules.lexers; stoplists = are; groups = rules.groups; sets = rules.sets })

  group_put : (group : Group) → IsName name → AreNamed is_named_group (insert m.preferences.groups name group)
      → Becomes (record m { preferences = with_group m.preferences name group }) c (after (spell (group_changes name group)) c)
  group_put group is_name are =
      preferences_become c m (with_group m.preferences name group) (group_changes name group) stands (refl, tt) (record { owner = is_name; part = refl }, tt)
      (group_stands (at c) m.preferences name group stands.preferences) (record { lexers = rules.lexers; stoplists = rules.stoplists; groups = are; sets = rules.sets })

  set_put : (set : List (List (List ℕ))) → IsName name → AreNamed is_index_set (insert m.preferences.sets name set)
      → Becomes (record m { preferences = with_index_set m.preferences name set }) c (after (spell (set_changes name set)) c)
  set_put set is_name are =
      preferences_become c m (with_index_set m.preferences name set) (set_changes name set) stands (refl, tt) (record { owner = is_name; part = refl }, tt)
      (set_stands (at c) m.preferences name set stands.preferences) (record { lexers = rules.lexers; stoplists = rules.stoplists; groups = rules.groups; sets = are })

  -- another value of one that is there
  pub lexer_again : (old settings : List Setting) → get m.preferences.lexers name ≡ Some old → are_lexer_settings settings ≡ true
      → Becomes (record m { preferences = with_lexer m.preferences name settings }) c (after (spell (lexer_changes name settings)) c)
  lexer_again old settings there keeps = lexer_put settings (rules.lexers.names name old there) (named_again are_lexer_settings m.preferences.lexers name settings old there rules.lexers keeps)

  pub stoplist_again : (old words : List (List ℕ)) → get m.preferences.stoplists name ≡ Some old → are_stopwords words ≡ true
      → Becomes (record m { preferences = with_stoplist m.preferences name words }) c (after (spell (stoplist_changes name words)) c)
  stoplist_again old words there keeps = stoplist_put words (rules.stoplists.names name old there) (named_again are_stopwords m.preferences.stoplists name words old there rules.stoplists keeps)

  pub group_again : (old group : Group) → get m.preferences.groups name ≡ Some old → is_named_group group ≡ true
      → Becomes (record m { preferences = with_group m.preferences name group }) c (after (spell (group_changes name group)) c)
  group_again old group there keeps = group_put group (rules.groups.names name old there) (named_again is_named_group m.preferences.groups name group old there rules.groups keeps)

  pub set_again : (old set : List (List (List ℕ))) → get m.preferences.sets name ≡ Some old → is_index_set set ≡ true
      → Becomes (record m { preferences = with_index_set m.preferences name set }) c (after (spell (set_changes name set)) c)
  set_again old set there keeps = set_put set (rules.sets.names name old there) (named_again is_index_set m.preferences.sets name set old there rules.sets keeps)

  -- a new one, where there is room for one
  few : (count : ℕ) → nat_le preference_limit count ≡ false → count < preference_limit
  few count room = leb-false preference_limit count room

  pub new_becomes : (k : PrefKind) (is_null : Bool) → IsName name → is_kind_full k m.preferences ≡ false
      → Becomes (record m { preferences = with_new k m.preferences name is_null }) c (after (spell (new_changes k name is_null)) c)
  new_becomes Lexer is_null is_name room = lexer_put [] is_name (named_more are_lexer_settings m.preferences.lexers name [] rules.lexers is_name refl (few (length (entries m.preferences.lexers)) room))
  new_becomes Stoplist is_null is_name room = stoplist_put [] is_name (named_more are_stopwords m.preferences.stoplists name [] rules.stoplists is_name refl (few (length (entries m.preferences.stoplists)) room))
  new_becomes SectionGroup is_null is_name room =
      group_put (record no_sections { is_null = is_null }) is_name
      (named_more is_named_group m.preferences.groups name (record no_sections { is_null = is_null }) rules.groups is_name (no_sections_kept is_null) (few (length (entries m.preferences.groups)) room))
    where
      no_sections_kept : (is_null : Bool) → is_named_group (record no_sections { is_null = is_null }) ≡ true
      no_sections_kept true = refl
      no_sections_kept false = refl
  new_becomes IndexSet is_null is_name room = set_put [] is_name (named_more is_index_set m.preferences.sets name [] rules.sets is_name refl (few (length (entries m.preferences.sets)) room))
