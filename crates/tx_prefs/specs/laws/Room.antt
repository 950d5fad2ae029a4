-- Each entry that spells a preference is among those of all.
use Rattle.std.proofs.Common.{◌≡◌, ℕ, List, [], ◌++◌, map, Option, Some, sym, subst, ◌∙◌}
use Rattle.std.specs.FinMap.{get, entries, nat_cmp-IsAntisymmetric, slice_cmp-IsAntisymmetric}
use Rattle.ct_base.specs.laws.Options.{option_map_some}
use Rattle.ct_entry.specs.declared.kinds.Kind.{Kind}
use Rattle.ct_entry.specs.declared.kinds.Kind.TheVariants as kind
use Rattle.ct_entry.specs.Keys.{Key, key, bytes}
use Rattle.ct_entry.specs.Lists.{IsIn}
use Rattle.ct_entry.specs.Maps.{Names}
use Rattle.ct_entry.specs.laws.Lists.{in_mapped, in_left, in_right}
use Rattle.ct_entry.specs.laws.MapEntries.{get_in}
use Rattle.tx_settings.specs.PrefsBytes.{settings_bytes, words_bytes, group_bytes}
use Rattle.tx_sets.specs.Sets.{set_bytes}
use Rattle.tx_prefs.specs.Preferences.{Preferences}
use Rattle.tx_prefs.specs.Spelling.{NamesStand, PreferencesStand}
use Rattle.tx_prefs.specs.Room.{PreferenceEntry, named_entry, lexer_entries, stoplist_entries, group_entries, set_entries, preference_entries}

named_in : {X : Type 0} (f : Key → Option (List ℕ)) (k : Kind) (spelling : X → List ℕ) (xs : Names X) (name v : List ℕ)
    → NamesStand f k spelling xs → f (key k name []) ≡ Some v → IsIn (bytes (key k name []), v) (map (named_entry k spelling) (entries xs))
named_in {X} f k spelling xs name v stand has =
    let x = option_map_some spelling (get xs name) v (sym (stand name) ∙ has) in
    subst (λ (w : List ℕ). IsIn {A = PreferenceEntry} (bytes (key k name []), w) (map (named_entry k spelling) (entries xs))) x.2
    (in_mapped (named_entry k spelling) (name, x.0) (entries xs) (get_in (slice_cmp-IsAntisymmetric nat_cmp-IsAntisymmetric) xs name x.0 x.1))

module _ (f : Key → Option (List ℕ)) (ps : Preferences) (stand : PreferencesStand f ps) where
  -- those behind the lexer preferences, and those behind the stoplists
  abbrev behind_lexers : List PreferenceEntry
  behind_lexers = stoplist_entries ps ++ (group_entries ps ++ set_entries ps)

  abbrev behind_stoplists : List PreferenceEntry
  behind_stoplists = group_entries ps ++ set_entries ps

  stoplist_or_later : (e : PreferenceEntry) → IsIn e behind_lexers → IsIn e (preference_entries ps)
  stoplist_or_later e h = in_right e (lexer_entries ps) behind_lexers h

  group_or_later : (e : PreferenceEntry) → IsIn e behind_stoplists → IsIn e (preference_entries ps)
  group_or_later e h = stoplist_or_later e (in_right e (stoplist_entries ps) behind_stoplists h)

  pub lexer_in : (name v : List ℕ) → f (key kind.Preferences name []) ≡ Some v → IsIn (bytes (key kind.Preferences name []), v) (preference_entries ps)
  lexer_in name v has = in_left {A = PreferenceEntry} (bytes (key kind.Preferences name []), v) (lexer_entries ps) behind_lexers (named_in f kind.Preferences settings_bytes ps.lexers name v stand.lexers has)

  pub stoplist_in : (name v : List ℕ) → f (key kind.Stoplists name []) ≡ Some v → IsIn (bytes (key kind.Stoplists name []), v) (preference_entries ps)
  stoplist_in name v has =
      stoplist_or_later (bytes (key kind.Stoplists name []), v)
      (in_left {A = PreferenceEntry} (bytes (key kind.Stoplists name []), v) (stoplist_entries ps) behind_stoplists (named_in f kind.Stoplists words_bytes ps.stoplists name v stand.stoplists has))

  pub group_in : (name v : List ℕ) → f (key kind.SectionGroups name []) ≡ Some v → IsIn (bytes (key kind.SectionGroups name []), v) (preference_entries ps)
  group_in name v has =
      group_or_later (bytes (key kind.SectionGroups name []), v)
      (in_left {A = PreferenceEntry} (bytes (key kind.SectionGroups name []), v) (group_entries ps) (set_entries ps) (named_in f kind.SectionGroups group_bytes ps.groups name v stand.groups has))

  pub set_in : (name v : List ℕ) → f (key kind.IndexSets name []) ≡ Some v → IsIn (bytes (key kind.IndexSets name []), v) (preference_entries ps)
  set_in name v has =
      group_or_later (bytes (key kind.IndexSets name []), v)
      (in_right {A = PreferenceEntry} (bytes (key kind.IndexSets name []), v) (group_entries ps) (set_entries ps) (named_in f kind.IndexSets set_bytes ps.sets name v stand.sets has))
