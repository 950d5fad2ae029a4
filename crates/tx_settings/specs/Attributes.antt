-- The attributes of lexer preferences: which values they take, what these make of a lexer's options, and which attributes options have that aren't the default.
use Rattle.std.specs.Prelude.{ℕ, ◌≡◌, Bool, true, false, not, ◌&&◌, ◌||◌, nat_le, List, [], ◌∷◌, ◌++◌, length, map, bytes_eq, Option, Some, None, codes, refl, replicate}
use Rattle.std.specs.Bool.{if◌then◌else◌}
use Rattle.std.specs.List.{list_all}
use Rattle.std.specs.Char.{is_whitespace, to_ascii_lowercase}
use Rattle.std.specs.Str.{chars, encode_utf8_all}
use lib.Utf8.{encode}
use Rattle.ucd_category.proofs.Computing.{ucd_category}
use Rattle.caseless.proofs.Computing.{caseless}
use Rattle.ct_base.specs.Characters.{first}
use Rattle.tx_chars.specs.Keys.{is_word}
use Rattle.tx_lexer.specs.CharSets.{set_of}
use Rattle.tx_lexer.specs.declared.options.LexerOptions.{LexerOptions}
use Rattle.tx_lexer.specs.Tokens.{default_options}
use Rattle.tx_settings.specs.declared.attributes.Attribute.{Attribute}
use Rattle.tx_settings.specs.declared.attributes.Setting.{Setting}
use Rattle.tx_settings.specs.declared.attributes.Attribute.TheVariants.{BaseLetter, Endjoins, IndexText, IndexThemes, MixedCase, Numgroup, Numjoin, Printjoins, Punctuations, Skipjoins, Startjoins}

-- ---- names

abbrev pub attribute_name : Attribute → List ℕ
attribute_name BaseLetter = codes "base_letter"
attribute_name Endjoins = codes "endjoins"
attribute_name IndexText = codes "index_text"
attribute_name IndexThemes = codes "index_themes"
attribute_name MixedCase = codes "mixed_case"
attribute_name Numgroup = codes "numgroup"
attribute_name Numjoin = codes "numjoin"
attribute_name Printjoins = codes "printjoins"
attribute_name Punctuations = codes "punctuations"
attribute_name Skipjoins = codes "skipjoins"
attribute_name Startjoins = codes "startjoins"

-- all attributes, in the order of their names
abbrev pub all_attributes : List Attribute
all_attributes = BaseLetter ∷ Endjoins ∷ IndexText ∷ IndexThemes ∷ MixedCase ∷ Numgroup ∷ Numjoin ∷ Printjoins ∷ Punctuations ∷ Skipjoins ∷ Startjoins ∷ []

abbrev pub named_among : List ℕ → List Attribute → Option Attribute
named_among name [] = None
named_among name (a ∷ more) = if bytes_eq (attribute_name a) name then Some a else named_among name more

-- the attribute of a name, which is read in any ASCII case
abbrev pub attribute_named : List ℕ → Option Attribute
attribute_named name = named_among (map to_ascii_lowercase name) all_attributes

-- ---- values

-- a text is this word, which is given in lower case, in any ASCII case
abbrev pub is_spelt : List ℕ → List ℕ → Bool
is_spelt word text = bytes_eq (map to_ascii_lowercase text) word

abbrev pub is_yes : List ℕ → Bool
is_yes text = is_spelt (codes "yes") text

abbrev pub is_no : List ℕ → Bool
is_no text = is_spelt (codes "no") text

-- neither a character of words nor white space
abbrev pub is_sign : ℕ → Bool
is_sign c = not (is_word c || is_whitespace c)

-- how many characters the value of a set has at most, repeated ones too
abbrev pub set_limit : ℕ
set_limit = 64

abbrev pub are_signs : ℕ → List ℕ → Bool
are_signs limit value = nat_le (length (chars value)) limit && list_all is_sign (chars value)

-- whether an attribute takes this value, which is UTF-8
abbrev pub takes_value : Attribute → List ℕ → Bool
takes_value BaseLetter value = is_yes value || is_no value
takes_value Endjoins value = are_signs set_limit value
takes_value IndexText value = is_yes value
takes_value IndexThemes value = is_no value
takes_value MixedCase value = is_yes value || is_no value
takes_value Numgroup value = are_signs 1 value
takes_value Numjoin value = are_signs 1 value
takes_value Printjoins value = are_signs set_limit value
takes_value Punctuations value = are_signs set_limit value
takes_value Skipjoins value = are_signs set_limit value
takes_value Startjoins value = are_signs set_limit value

-- what a value makes of the options
abbrev pub with_value : Attribute → List ℕ → LexerOptions → LexerOptions
with_value BaseLetter value o = record o { base_letter = is_yes value }
with_value Endjoins value o = record o { endjoins = set_of (chars value) }
with_value IndexText value o = o
with_value IndexThemes value o = o
with_value MixedCase value o = record o { mixed_case = is_yes value }
with_value Numgroup value o = record o { numgroup = first (chars value) }
with_value Numjoin value o = record o { numjoin = first (chars value) }
with_value Printjoins value o = record o { printjoins = set_of (chars value) }
with_value Punctuations value o = record o { punctuations = set_of (chars value) }
with_value Skipjoins value o = record o { skipjoins = set_of (chars value) }
with_value Startjoins value o = record o { startjoins = set_of (chars value) }

-- ---- settings

-- an attribute with its value
abbrev pub setting : Attribute → List ℕ → Setting
setting a value = record { attribute = a; value = value }

-- the attribute takes its value
abbrev pub is_taken : Setting → Bool
is_taken s = takes_value s.attribute s.value

abbrev pub are_taken : List Setting → Bool
are_taken ss = list_all is_taken ss

-- what settings make of options, one after the other
abbrev pub options_with : LexerOptions → List Setting → LexerOptions
options_with o [] = o
options_with o (s ∷ ss) = options_with (with_value s.attribute s.value o) ss

-- the options that settings make
abbrev pub options_of : List Setting → LexerOptions
options_of ss = options_with default_options ss

-- ---- the settings of options whose value isn't the default, in the order of names

-- a set as its characters in rising order
abbrev pub set_setting : Attribute → List ℕ → List ℕ → List Setting
set_setting a default set = if bytes_eq set default then [] else setting a (encode_utf8_all set) ∷ []

abbrev pub char_text : Option ℕ → List ℕ
char_text None = []
char_text (Some c) = c ∷ []

abbrev pub char_setting : Attribute → Option ℕ → Option ℕ → List Setting
char_setting a default c = set_setting a (char_text default) (char_text c)

abbrev pub flag_setting : Attribute → Bool → List Setting
flag_setting a flag = if flag then setting a (codes "YES") ∷ [] else []

abbrev pub settings_of : LexerOptions → List Setting
settings_of o =
    flag_setting BaseLetter o.base_letter
    ++ (set_setting Endjoins default_options.endjoins o.endjoins
    ++ (flag_setting MixedCase o.mixed_case
    ++ (char_setting Numgroup default_options.numgroup o.numgroup
    ++ (char_setting Numjoin default_options.numjoin o.numjoin
    ++ (set_setting Printjoins default_options.printjoins o.printjoins
    ++ (set_setting Punctuations default_options.punctuations o.punctuations
    ++ (set_setting Skipjoins default_options.skipjoins o.skipjoins
    ++ set_setting Startjoins default_options.startjoins o.startjoins)))))))

-- ---- the options that settings can make

-- a set as a value gives it: at most 64 characters, all of them signs
abbrev pub is_sign_set : List ℕ → Bool
is_sign_set set = nat_le (length set) set_limit && list_all is_sign set

-- WHICH OPTIONS CAN BE SET, by settings of which each has a value that its attribute takes
abbrev pub can_be_set : LexerOptions → Bool
can_be_set o =
    is_sign_set o.printjoins
    && (is_sign_set o.skipjoins
    && (is_sign_set o.startjoins
    && (is_sign_set o.endjoins
    && (is_sign_set o.punctuations
    && (list_all is_sign (char_text o.numjoin)
    && list_all is_sign (char_text o.numgroup))))))

-- computed examples
in_capitals : attribute_named (codes "SkipJoins") ≡ Some Skipjoins
in_capitals = refl

no_attribute : attribute_named (codes "composite") ≡ None
no_attribute = refl

hyphens : takes_value Skipjoins (codes "-_-") ≡ true
unfolding chars encode caseless ucd_category
hyphens = refl

no_letter : takes_value Printjoins (codes "a") ≡ false
unfolding chars encode caseless ucd_category
no_letter = refl

no_blank : takes_value Printjoins (codes "- ") ≡ false
unfolding chars encode caseless ucd_category
no_blank = refl

a_full_set : takes_value Printjoins (replicate 64 0x2d) ≡ true
unfolding chars encode caseless ucd_category
a_full_set = refl

one_sign_too_many : takes_value Printjoins (replicate 65 0x2d) ≡ false
unfolding chars encode caseless ucd_category
one_sign_too_many = refl

one_numjoin_at_most : takes_value Numjoin (codes "..") ≡ false
unfolding chars encode caseless ucd_category
one_numjoin_at_most = refl

yes_or_no : takes_value MixedCase (codes "Yes") ≡ true
yes_or_no = refl

neither : takes_value MixedCase (codes "true") ≡ false
neither = refl

the_last_counts : options_of (setting Skipjoins (codes "-") ∷ setting Numjoin [] ∷ setting Skipjoins (codes "_-") ∷ []) ≡ record default_options { skipjoins = codes "-_"; numjoin = None }
unfolding chars encode
the_last_counts = refl

three_signs : are_taken (setting Skipjoins (codes "-_-") ∷ []) ≡ true
unfolding chars encode caseless ucd_category
three_signs = refl

joined_by_hyphens : can_be_set (record default_options { skipjoins = codes "-"; numgroup = None }) ≡ true
unfolding caseless ucd_category
joined_by_hyphens = refl

joined_by_a_letter : can_be_set (record default_options { skipjoins = codes "a" }) ≡ false
unfolding caseless ucd_category
joined_by_a_letter = refl

-- the set of the default isn't written, and another one rises
its_settings : settings_of (record default_options { skipjoins = codes "-_"; numjoin = None; base_letter = true }) ≡ setting BaseLetter (codes "YES") ∷ setting Numjoin [] ∷ setting Skipjoins (codes "-_") ∷ []
unfolding encode
its_settings = refl
