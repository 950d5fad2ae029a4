-- What changes make of the entries that spell preferences.
use Rattle.std.proofs.Common.{◌≡◌, ℕ, Bool, true, false, cond, List, [], ◌∷◌, Option, Some, refl, sym, ap, ◌∙◌}
use Rattle.std.specs.Prelude.{◌&&◌}
use Rattle.std.specs.Option.{option_map}
use Rattle.std.specs.FinMap.{get, insert}
use Rattle.ct_entry.specs.declared.kinds.Kind.{Kind}
use Rattle.ct_entry.specs.declared.kinds.Kind.TheVariants as kind
use Rattle.ct_entry.specs.Keys.{Key, key, same_list}
use Rattle.ct_entry.specs.Changes.{put_value, view, AllOf}
use Rattle.ct_entry.specs.Maps.{Names}
use Rattle.ct_entry.specs.laws.Parts.{same_kind}
use Rattle.ct_entry.specs.laws.Maps.{get_name-insert}
use Rattle.ct_entry.specs.laws.Changes.{told_frame}
use Rattle.tx_tags.specs.Groups.{SectionGroup}
use Rattle.tx_settings.specs.declared.attributes.Setting.{Setting}
use Rattle.tx_settings.specs.PrefsBytes.{settings_bytes, words_bytes, group_bytes}
use Rattle.tx_sets.specs.Sets.{set_bytes}
use Rattle.tx_prefs.specs.Preferences.{Preferences, with_lexer, with_stoplist, with_group, with_index_set}
use Rattle.tx_prefs.specs.Spelling.{NamesStand, PreferencesStand, lexer_changes, stoplist_changes, group_changes, set_changes}

-- the kinds of preferences
abbrev pub is_of_preferences : Kind → Bool
is_of_preferences kind.Preferences = true
is_of_preferences kind.Stoplists = true
is_of_preferences kind.SectionGroups = true
is_of_preferences kind.IndexSets = true
is_of_preferences k = false

-- only the entries of these kinds matter
pub preferences_agree : (f g : Key → Option (List ℕ)) (ps : Preferences) → ((k : Key) → is_of_preferences k.kind ≡ true → g k ≡ f k) → PreferencesStand f ps → PreferencesStand g ps
preferences_agree f g ps same stand = record {
  lexers = λ n. same (key kind.Preferences n []) refl ∙ stand.lexers n;
  stoplists = λ n. same (key kind.Stoplists n []) refl ∙ stand.stoplists n;
  groups = λ n. same (key kind.SectionGroups n []) refl ∙ stand.groups n;
  sets = λ n. same (key kind.IndexSets n []) refl ∙ stand.sets n;
}

-- a test of kinds that takes none of these
pub other_kinds : (p : Kind → Bool) → p kind.Preferences ≡ false → p kind.Stoplists ≡ false → p kind.SectionGroups ≡ false → p kind.IndexSets ≡ false → (k : Kind) → is_of_preferences k ≡ true → p k ≡ false
other_kinds p a b c d kind.Preferences h = a
other_kinds p a b c d kind.Stoplists h = b
other_kinds p a b c d kind.SectionGroups h = c
other_kinds p a b c d kind.IndexSets h = d
other_kinds p a b c d k h = cc

-- changes on other kinds change nothing
pub preferences_frame : (p : Kind → Bool) (ws : List (Key × Option (List ℕ))) (f : Key → Option (List ℕ)) (ps : Preferences) → AllOf p ws → ((k : Kind) → is_of_preferences k ≡ true → p k ≡ false) → PreferencesStand f ps → PreferencesStand (view ws f) ps
preferences_frame p ws f ps all other stand = preferences_agree f (view ws f) ps (λ k of. told_frame p ws k (f k) all (other k.kind of)) stand

-- one more name, or one that has another value now
names_put : {X : Type 0} (f : Key → Option (List ℕ)) (k : Kind) (spelling : X → List ℕ) (xs : Names X) (name : List ℕ) (x : X)
    → NamesStand f k spelling xs → NamesStand (view (put_value (key k name []) (spelling x) ∷ []) f) k spelling (insert xs name x)
names_put {X} f k spelling xs name x stand q =
    ap (λ (b : Bool). cond b (Some (spelling x)) (f (key k q []))) (same_kind k q name [] [])
    ∙ ap (cond (same_list q name && true) (Some (spelling x))) (stand q)
    ∙ at_name (same_list q name) (get xs q)
    ∙ ap (option_map spelling) (sym (get_name-insert xs name x q))
  where
    at_name : (b : Bool) (o : Option X) → cond (b && true) (Some (spelling x)) (option_map spelling o) ≡ option_map spelling (cond b (Some x) o)
    at_name true o = refl
    at_name false o = refl

pub lexer_stands : (f : Key → Option (List ℕ)) (ps : Preferences) (name : List ℕ) (settings : List Setting) → PreferencesStand f ps → PreferencesStand (view (lexer_changes name settings) f) (with_lexer ps name settings)
lexer_stands f ps name settings stand = record {
  lexers = names_put f kind.Preferences settings_bytes ps.lexers name settings stand.lexers;
  stoplists = stand.stoplists;
  groups = stand.groups;
  sets = stand.sets;
}

pub stoplist_stands : (f : Key → Option (List ℕ)) (ps : Preferences) (name : List ℕ) (words : List (List ℕ)) → PreferencesStand f ps → PreferencesStand (view (stoplist_changes name words) f) (with_stoplist ps name words)
stoplist_stands f ps name words stand = record {
  lexers = stand.lexers;
  stoplists = names_put f kind.Stoplists words_bytes ps.stoplists name words stand.stoplists;
  groups = stand.groups;
  sets = stand.sets;
}

pub group_stands : (f : Key → Option (List ℕ)) (ps : Preferences) (name : List ℕ) (group : SectionGroup) → PreferencesStand f ps → PreferencesStand (view (group_changes name group) f) (with_group ps name group)
group_stands f ps name group stand = record {
  lexers = stand.lexers;
  stoplists = stand.stoplists;
  groups = names_put f kind.SectionGroups group_bytes ps.groups name group stand.groups;
  sets = stand.sets;
}

pub set_stands : (f : Key → Option (List ℕ)) (ps : Preferences) (name : List ℕ) (set : List (List (List ℕ))) → PreferencesStand f ps → PreferencesStand (view (set_changes name set) f) (with_index_set ps name set)
set_stands f ps name set stand = record {
  lexers = stand.lexers;
  stoplists = stand.stoplists;
  groups = stand.groups;
  sets = names_put f kind.IndexSets set_bytes ps.sets name set stand.sets;
}
