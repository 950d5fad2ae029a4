-- The rules that preferences, stoplists, section groups and index sets keep in every state.
use Rattle.std.specs.Prelude.{ℕ, ◌≡◌, ◌≤◌, Bool, true, false, ◌&&◌, nat_le, List, [], ◌∷◌, length, Some, codes, refl, replicate}
use Rattle.std.specs.List.{list_all}
use Rattle.std.specs.FinMap.{get, entries}
use Rattle.std.specs.Str.{chars, is_utf8}
use lib.Utf8.{encode}
use Rattle.ucd_category.proofs.Computing.{ucd_category}
use Rattle.caseless.proofs.Computing.{caseless}
use Rattle.ct_base.specs.Names.{IsName}
use Rattle.ct_entry.specs.Maps.{Names}
use Rattle.tx_stop.specs.StopKeys.{stop_limit}
use Rattle.tx_tags.specs.Groups.{are_distinct}
use Rattle.tx_settings.specs.declared.attributes.Attribute.TheVariants.{MixedCase, Skipjoins}
use Rattle.tx_settings.specs.Attributes.{setting}
use Rattle.tx_settings.specs.PrefsBytes.{are_lexer_settings, is_named_group}
use Rattle.tx_settings.specs.PrefsPromises.{stopword_limit}
use Rattle.tx_sets.specs.Sets.{is_index_set}
use Rattle.tx_prefs.specs.Preferences.{Preferences}

-- how many preferences, stoplists, groups and index sets there are at most, each for itself
abbrev pub preference_limit : ℕ
preference_limit = 256

abbrev pub is_stopword : List ℕ → Bool
is_stopword word = nat_le 1 (length word) && (nat_le (length word) stopword_limit && is_utf8 word)

-- the words of a stoplist: at most 4096, none twice
abbrev pub are_stopwords : List (List ℕ) → Bool
are_stopwords ws = nat_le (length ws) stop_limit && (are_distinct ws && list_all is_stopword ws)

-- The names are names, there are not too many, and each has what the rule allows.
pub record AreNamed {X : Type 0} (rule : X → Bool) (xs : Names X) : Type 0 where
  pub names : (name : List ℕ) (x : X) → get xs name ≡ Some x → IsName name
  pub each : (name : List ℕ) (x : X) → get xs name ≡ Some x → rule x ≡ true
  pub few : length (entries xs) ≤ preference_limit

pub record ArePreferences (ps : Preferences) : Type 0 where
  pub lexers : AreNamed are_lexer_settings ps.lexers
  pub stoplists : AreNamed are_stopwords ps.stoplists
  pub groups : AreNamed is_named_group ps.groups
  pub sets : AreNamed is_index_set ps.sets

-- computed examples
two_settings : are_lexer_settings (setting MixedCase (codes "Yes") ∷ setting Skipjoins (codes "-") ∷ []) ≡ true
unfolding chars is_utf8 encode caseless ucd_category
two_settings = refl

not_in_order : are_lexer_settings (setting Skipjoins (codes "-") ∷ setting MixedCase (codes "YES") ∷ []) ≡ false
not_in_order = refl

two_words : are_stopwords (codes "the" ∷ codes "a" ∷ []) ≡ true
unfolding chars is_utf8 encode
two_words = refl

a_word_twice : are_stopwords (codes "the" ∷ codes "the" ∷ []) ≡ false
a_word_twice = refl

too_long : is_stopword (replicate 65 0x61) ≡ false
too_long = refl
