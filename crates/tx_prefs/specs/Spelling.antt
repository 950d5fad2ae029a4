-- The entries that spell preferences, stoplists, section groups and index sets: one for each, under its name.
use Rattle.std.specs.Prelude.{ℕ, ◌≡◌, ◌<◌, true, List, [], ◌∷◌, ◌++◌, length, Option, Some, MatchOption, codes, refl}
use Rattle.std.specs.Option.{option_map}
use Rattle.std.specs.FinMap.{get}
use Rattle.ct_bytes.specs.Varints.{varint}
use Rattle.ct_keep.specs.Content.{value_limit}
use Rattle.ct_entry.specs.declared.kinds.Kind.{Kind}
use Rattle.ct_entry.specs.declared.kinds.Kind.TheVariants as kind
use Rattle.ct_entry.specs.Keys.{Key, key}
use Rattle.ct_entry.specs.Changes.{put_value, spell}
use Rattle.ct_entry.specs.Maps.{Names}
use Rattle.tx_tags.specs.Groups.{SectionGroup, no_sections}
use Rattle.tx_settings.specs.declared.attributes.Attribute.TheVariants.{Skipjoins}
use Rattle.tx_settings.specs.declared.attributes.Setting.{Setting}
use Rattle.tx_settings.specs.Attributes.{setting}
use Rattle.tx_settings.specs.PrefsBytes.{settings_bytes, words_bytes, group_bytes}
use Rattle.tx_sets.specs.Sets.{set_bytes, two_sub_indexes}
use Rattle.tx_prefs.specs.declared.kinds.PrefKind.{PrefKind}
use Rattle.tx_prefs.specs.declared.kinds.PrefKind.TheVariants.{Lexer, Stoplist, SectionGroup as Group, IndexSet}
use Rattle.tx_prefs.specs.Preferences.{Preferences}

-- The entries of a kind spell what names have: each under its name, and no other.
abbrev pub NamesStand : {X : Type 0} → (Key → Option (List ℕ)) → Kind → (X → List ℕ) → Names X → Type 0
NamesStand f k spelling xs = (name : List ℕ) → f (key k name []) ≡ option_map spelling (get xs name)

-- The entries of the kinds Preferences, Stoplists, SectionGroups and IndexSets spell these.
pub record PreferencesStand (f : Key → Option (List ℕ)) (ps : Preferences) : Type 0 where
  pub lexers : NamesStand f kind.Preferences settings_bytes ps.lexers
  pub stoplists : NamesStand f kind.Stoplists words_bytes ps.stoplists
  pub groups : NamesStand f kind.SectionGroups group_bytes ps.groups
  pub sets : NamesStand f kind.IndexSets set_bytes ps.sets

-- the kind of the entries
abbrev pub entry_kind : PrefKind → Kind
entry_kind Lexer = kind.Preferences
entry_kind Stoplist = kind.Stoplists
entry_kind Group = kind.SectionGroups
entry_kind IndexSet = kind.IndexSets

-- ---- what calls put into a batch

abbrev pub lexer_changes : List ℕ → List Setting → List (Key × Option (List ℕ))
lexer_changes name settings = put_value (key kind.Preferences name []) (settings_bytes settings) ∷ []

abbrev pub stoplist_changes : List ℕ → List (List ℕ) → List (Key × Option (List ℕ))
stoplist_changes name words = put_value (key kind.Stoplists name []) (words_bytes words) ∷ []

abbrev pub group_changes : List ℕ → SectionGroup → List (Key × Option (List ℕ))
group_changes name group = put_value (key kind.SectionGroups name []) (group_bytes group) ∷ []

abbrev pub set_changes : List ℕ → List (List (List ℕ)) → List (Key × Option (List ℕ))
set_changes name set = put_value (key kind.IndexSets name []) (set_bytes set) ∷ []

-- The changes as a batch, or None where the value that they put would be longer than a value may be.
abbrev pub MakesBatch : List ℕ → List (Key × Option (List ℕ)) → Option (List (List ℕ × Option (List ℕ))) → Type 0
MakesBatch value changes found = MatchOption found (value_limit < length value) (λ batch. batch ≡ spell changes)

-- computed examples
hyphens_left_out : spell (lexer_changes (codes "lx") (setting Skipjoins (codes "-") ∷ [])) ≡ (0x10 ∷ 2 ∷ codes "lx", Some (1 ∷ 9 ∷ codes "skipjoins" ++ (1 ∷ codes "-"))) ∷ []
unfolding varint
hyphens_left_out = refl

no_settings : MakesBatch (settings_bytes []) (lexer_changes (codes "lx") []) (Some ((0x10 ∷ 2 ∷ codes "lx", Some (0 ∷ [])) ∷ []))
unfolding varint
no_settings = refl

two_stopwords : spell (stoplist_changes (codes "sl") (codes "Is" ∷ codes "a" ∷ [])) ≡ (0x11 ∷ 2 ∷ codes "sl", Some (2 ∷ 2 ∷ codes "Is" ++ (1 ∷ codes "a"))) ∷ []
unfolding varint
two_stopwords = refl

a_group : spell (group_changes (codes "g") (record no_sections { sentence = true })) ≡ (0x12 ∷ 1 ∷ codes "g", Some (2 ∷ 1 ∷ 0 ∷ [])) ∷ []
unfolding varint
a_group = refl

a_set : spell (set_changes (codes "iset") two_sub_indexes) ≡ (0x13 ∷ 4 ∷ codes "iset", Some (2 ∷ 1 ∷ 5 ∷ codes "price" ++ (2 ∷ 4 ∷ codes "kind" ++ (5 ∷ codes "price")))) ∷ []
unfolding varint
a_set = refl
