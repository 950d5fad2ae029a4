-- The preferences that an index copies: what the names in its PARAMETERS mean now.
use Rattle.std.specs.Prelude.{ℕ, ◌≡◌, ◌<◌, ◌⊎◌, false, List, [], ◌∷◌, length, map, Option, Some, None, MatchOption, codes, refl}
use Rattle.std.specs.Option.{option_and_then, option_map}
use Rattle.std.specs.Str.{chars}
use Rattle.std.specs.FinMap.{get}
use lib.Utf8.{encode}
use Rattle.ucd_category.proofs.Computing.{ucd_category}
use Rattle.caseless.proofs.Computing.{caseless}
use Rattle.ct_entry.specs.Maps.{Names}
use Rattle.tx_chars.specs.Keys.{key_text}
use Rattle.tx_stop.specs.StopKeys.{stop_keys, stop_limit}
use Rattle.tx_tags.specs.Groups.{SectionGroup, no_sections}
use Rattle.tx_settings.specs.declared.attributes.Attribute.TheVariants.{MixedCase}
use Rattle.tx_settings.specs.declared.attributes.Setting.{Setting}
use Rattle.tx_settings.specs.declared.preferences.Prefs.{Prefs}
use Rattle.tx_settings.specs.Attributes.{are_taken, setting, options_of}
use Rattle.tx_settings.specs.Defaults.{default_prefs}
use Rattle.tx_prefs.specs.declared.parameters.Parameters.{Parameters}
use Rattle.tx_prefs.specs.Preferences.{Preferences}

-- what a name means; where there is no name, the default
abbrev pub meant : {X : Type 0} → Names X → X → Option (List ℕ) → Option X
meant xs default None = Some default
meant xs default (Some name) = get xs name

-- The preferences of these settings, words and group: the keys of stopwords are made by the flags of the lexer.
abbrev pub prefs_of : List Setting → List (List ℕ) → SectionGroup → Prefs
prefs_of settings words group =
    let lexer = options_of settings in
    record { lexer = lexer; stop = stop_keys lexer.base_letter lexer.mixed_case (map chars words); group = group }

-- The preferences of these, or None where a value isn't one of its attribute or there are more words than a stoplist has.
abbrev pub MakesPrefs : List Setting → List (List ℕ) → SectionGroup → Option Prefs → Type 0
MakesPrefs settings words group found = MatchOption found ((stop_limit < length words) ⊎ (are_taken settings ≡ false)) (λ prefs. prefs ≡ prefs_of settings words group)

-- none where one of the names has none
abbrev pub copied : Preferences → Parameters → Option Prefs
copied ps parameters =
    option_and_then (λ settings.
    option_and_then (λ words.
    option_map (prefs_of settings words)
    (meant ps.groups no_sections parameters.group))
    (meant ps.stoplists [] parameters.stoplist))
    (meant ps.lexers [] parameters.lexer)

-- computed examples
nothing_asked : (ps : Preferences) → copied ps (record { lexer = None; stoplist = None; group = None }) ≡ Some default_prefs
nothing_asked ps = refl

nothing_given : MakesPrefs [] [] no_sections (Some default_prefs)
nothing_given = refl

-- the flag of the lexer keeps the capital of the stopword
by_its_flags : (prefs_of (setting MixedCase (codes "yes") ∷ []) (codes "Is" ∷ []) no_sections).stop ≡ codes "Is" ∷ []
unfolding chars encode caseless ucd_category key_text
by_its_flags = refl

in_lower_case : (prefs_of [] (codes "Is" ∷ []) no_sections).stop ≡ codes "is" ∷ []
unfolding chars encode caseless ucd_category key_text
in_lower_case = refl
