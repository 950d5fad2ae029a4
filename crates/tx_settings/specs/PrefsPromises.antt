-- What the functions of `src/prefs_laws.rt` promise of preferences as bytes.
use Rattle.std.specs.Prelude.{ℕ, ◌≡◌, ◌≤◌, ◌<◌, ◌^◌, Bool, true, false, nat_le, List, [], ◌∷◌, ◌++◌, length, refl, replicate}
use Rattle.std.specs.List.{list_all}
use Rattle.std.specs.Str.{IsUtf8}
use Rattle.tx_lexer.specs.declared.options.LexerOptions.{LexerOptions}
use Rattle.tx_lexer.specs.Tokens.{default_options}
use Rattle.tx_stop.specs.StopKeys.{stop_limit}
use Rattle.tx_tags.specs.Groups.{SectionGroup}
use Rattle.tx_settings.specs.declared.attributes.Attribute.{Attribute}
use Rattle.tx_settings.specs.declared.attributes.Attribute.TheVariants.{Printjoins}
use Rattle.tx_settings.specs.declared.attributes.Setting.{Setting}
use Rattle.tx_settings.specs.declared.preferences.Prefs.{Prefs}
use Rattle.tx_settings.specs.Attributes.{are_taken, can_be_set, options_of, setting, settings_of, takes_value}
use Rattle.tx_settings.specs.PrefsBytes.{IsPrefs, are_options, are_settings, are_short, are_words, group_bytes, is_named_group, is_short, prefs_bytes, settings_bytes, words_bytes}

-- ---- no spelling begins another

abbrev pub NoneBegins : {X : Type 0} → (X → List ℕ) → Type 0
NoneBegins {X} spelling = (a b : X) (r s : List ℕ) → spelling a ++ r ≡ spelling b ++ s → (a ≡ b) × (r ≡ s)

abbrev pub NoSettingsBeginOthers : Type 0
NoSettingsBeginOthers = NoneBegins settings_bytes

abbrev pub NoWordsBeginOthers : Type 0
NoWordsBeginOthers = NoneBegins words_bytes

abbrev pub NoGroupBeginsAnother : Type 0
NoGroupBeginsAnother = NoneBegins group_bytes

abbrev pub NoPrefsBeginOthers : Type 0
NoPrefsBeginOthers = (p q : Prefs) (r s : List ℕ) → IsPrefs p → IsPrefs q → prefs_bytes p ++ r ≡ prefs_bytes q ++ s → (p ≡ q) × (r ≡ s)

-- ---- options and their settings

-- the settings of options make these options
abbrev pub OptionsAreMadeAgain : Type 0
OptionsAreMadeAgain = (o : LexerOptions) → are_options o ≡ true → options_of (settings_of o) ≡ o

-- they are settings as they are kept
abbrev pub OptionsHaveSettings : Type 0
OptionsHaveSettings = (o : LexerOptions) → are_options o ≡ true → are_settings (settings_of o) ≡ true

-- ---- options that can be set

abbrev pub DefaultsCanBeSet : Type 0
DefaultsCanBeSet = can_be_set default_options ≡ true

-- what taken settings make can be set
abbrev pub TakenOptionsCanBeSet : Type 0
TakenOptionsCanBeSet = (ss : List Setting) → are_taken ss ≡ true → can_be_set (options_of ss) ≡ true

-- the settings of options that can be set are taken
abbrev pub SetOptionsAreTaken : Type 0
SetOptionsAreTaken = (o : LexerOptions) → are_options o ≡ true → can_be_set o ≡ true → are_taken (settings_of o) ≡ true

-- ---- what is kept may be written

abbrev pub KeptSettingsMayBeWritten : Type 0
KeptSettingsMayBeWritten = (ss : List Setting) → are_settings ss ≡ true → (length ss < 2 ^ 32) × (are_short ss ≡ true)

abbrev pub KeptWordsMayBeWritten : Type 0
KeptWordsMayBeWritten = (ws : List (List ℕ)) → are_words ws ≡ true → (length ws < 2 ^ 32) × (list_all is_short ws ≡ true)

-- ---- how many bytes there are at most

-- how long a value is at most: so many characters of four bytes each
abbrev pub setting_value_limit : ℕ
setting_value_limit = 256

abbrev pub ValuesAreShort : Type 0
ValuesAreShort = (a : Attribute) (value : List ℕ) → IsUtf8 value → takes_value a value ≡ true → length value ≤ setting_value_limit

abbrev pub have_short_values : List Setting → Bool
have_short_values ss = list_all (λ (s : Setting). nat_le (length s.value) setting_value_limit) ss

abbrev pub SettingsAreShort : Type 0
SettingsAreShort = (ss : List Setting) → are_settings ss ≡ true → have_short_values ss ≡ true → length (settings_bytes ss) < 2 ^ 12

-- how many bytes a stopword has at most
abbrev pub stopword_limit : ℕ
stopword_limit = 64

abbrev pub WordsAreShort : Type 0
WordsAreShort = (ws : List (List ℕ)) → length ws ≤ stop_limit → list_all (λ w. nat_le (length w) stopword_limit) ws ≡ true → length (words_bytes ws) < 2 ^ 19

abbrev pub GroupsAreShort : Type 0
GroupsAreShort = (g : SectionGroup) → is_named_group g ≡ true → length (group_bytes g) < 2 ^ 14

abbrev pub PrefsAreShort : Type 0
PrefsAreShort = (p : Prefs) → IsPrefs p → length (prefs_bytes p) < 2 ^ 21

-- computed examples: a value of 256 bytes, and one of 257
as_long_as_may_be : have_short_values (setting Printjoins (replicate 256 0x2b) ∷ []) ≡ true
as_long_as_may_be = refl

a_byte_too_long : have_short_values (setting Printjoins (replicate 257 0x2b) ∷ []) ≡ false
a_byte_too_long = refl
