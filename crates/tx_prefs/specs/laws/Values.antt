-- The entries of preferences have values of their kinds, and spell one thing each.
use Rattle.std.proofs.Common.{◌≡◌, ℕ, ◌≤◌, List, [], ◌++◌, length, Option, Some, sym, ap, ◌∙◌, arith}
use Rattle.std.specs.FinMap.{get}
use Rattle.std.specs.List.{list_all}
use Rattle.std.proofs.lemmas.Bool.{and_parts}
use Rattle.ct_base.specs.laws.Options.{option_map_some}
use Rattle.ct_keep.specs.Content.{value_limit}
use Rattle.ct_entry.specs.declared.kinds.Kind.TheVariants as kind
use Rattle.ct_entry.specs.Keys.{Key, key}
use Rattle.tx_settings.specs.PrefsBytes.{are_lexer_settings, are_settings, group_bytes, is_named_group, settings_bytes, words_bytes}
use Rattle.tx_settings.specs.PrefsPromises.{NoneBegins}
use Rattle.tx_settings.specs.laws.Apart.{settings_apart, words_apart, group_apart}
use Rattle.tx_sets.specs.Sets.{are_sub_indexes, is_index_set, set_bytes}
use Rattle.tx_sets.specs.laws.Sets.{set_apart, sets_are_short, sets_may_be_read}
use Rattle.ct_base.specs.Names.{is_kept}
use Rattle.tx_prefs.specs.Preferences.{Preferences}
use Rattle.tx_prefs.specs.Spelling.{PreferencesStand}
use Rattle.tx_prefs.specs.Rules.{ArePreferences, are_stopwords}
use Rattle.tx_prefs.specs.Shapes.{HasPrefValue}
use Rattle.tx_prefs.specs.laws.Lengths.{settings_short, words_short, group_short, stopwords_are_words}
use Rattle.tx_prefs.specs.laws.OneOf.{one_names}

-- ---- one state

-- what has its own bytes
own : {X : Type 0} (spelling : X → List ℕ) → NoneBegins spelling → (x y : X) → spelling x ≡ spelling y → x ≡ y
own spelling apart x y same = (apart x y [] [] (ap (λ (l : List ℕ). l ++ []) same)).0

pub one_preferences : (f : Key → Option (List ℕ)) (ps qs : Preferences) → PreferencesStand f ps → PreferencesStand f qs → ArePreferences ps → ArePreferences qs → ps ≡ qs
one_preferences f ps qs first second ps_are qs_are =
    same
    (one_names f kind.Preferences settings_bytes are_lexer_settings ps.lexers qs.lexers (λ x y _ _ e. own settings_bytes settings_apart x y e) first.lexers second.lexers ps_are.lexers qs_are.lexers)
    (one_names f kind.Stoplists words_bytes are_stopwords ps.stoplists qs.stoplists (λ x y _ _ e. own words_bytes words_apart x y e) first.stoplists second.stoplists ps_are.stoplists qs_are.stoplists)
    (one_names f kind.SectionGroups group_bytes is_named_group ps.groups qs.groups (λ x y _ _ e. own group_bytes group_apart x y e) first.groups second.groups ps_are.groups qs_are.groups)
    (one_names f kind.IndexSets set_bytes is_index_set ps.sets qs.sets (λ x y _ _ e. own set_bytes set_apart x y e) first.sets second.sets ps_are.sets qs_are.sets)
  where
    same : ps.lexers ≡ qs.lexers → ps.stoplists ≡ qs.stoplists → ps.groups ≡ qs.groups → ps.sets ≡ qs.sets → ps ≡ qs
    same a b c d i = record { lexers = a i; stoplists = b i; groups = c i; sets = d i }

-- ---- the values of entries

module _ (f : Key → Option (List ℕ)) (ps : Preferences) (stand : PreferencesStand f ps) (are : ArePreferences ps) where
  pub lexer_value : (name v : List ℕ) → f (key kind.Preferences name []) ≡ Some v → HasPrefValue (key kind.Preferences name []) v × (length v ≤ value_limit)
  lexer_value name v has =
      let x = option_map_some settings_bytes (get ps.lexers name) v (sym (stand.lexers name) ∙ has) in
      let taken = are.lexers.each name x.0 x.1 in
      let short = settings_short x.0 taken in
      ((x.0, (and_parts (are_settings x.0) _ taken).0, sym x.2), omega (arith, short, ap length x.2))

  pub stoplist_value : (name v : List ℕ) → f (key kind.Stoplists name []) ≡ Some v → HasPrefValue (key kind.Stoplists name []) v × (length v ≤ value_limit)
  stoplist_value name v has =
      let x = option_map_some words_bytes (get ps.stoplists name) v (sym (stand.stoplists name) ∙ has) in
      let words = are.stoplists.each name x.0 x.1 in
      let short = words_short x.0 words in
      ((x.0, stopwords_are_words x.0 words, sym x.2), omega (arith, short, ap length x.2))

  pub group_value : (name v : List ℕ) → f (key kind.SectionGroups name []) ≡ Some v → HasPrefValue (key kind.SectionGroups name []) v × (length v ≤ value_limit)
  group_value name v has =
      let x = option_map_some group_bytes (get ps.groups name) v (sym (stand.groups name) ∙ has) in
      let group = are.groups.each name x.0 x.1 in
      let short = group_short x.0 group in
      ((x.0, group, sym x.2), omega (arith, short, ap length x.2))

  pub set_value : (name v : List ℕ) → f (key kind.IndexSets name []) ≡ Some v → HasPrefValue (key kind.IndexSets name []) v × (length v ≤ value_limit)
  set_value name v has =
      let x = option_map_some set_bytes (get ps.sets name) v (sym (stand.sets name) ∙ has) in
      let p = and_parts (are_sub_indexes x.0) (list_all (list_all is_kept) x.0) (are.sets.each name x.0 x.1) in
      let short = sets_are_short x.0 p.0 p.1 in
      ((x.0, sets_may_be_read x.0 p.0 p.1, sym x.2), omega (arith, short, ap length x.2))
