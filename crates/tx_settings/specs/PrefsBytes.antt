-- How preferences are written: the settings of a lexer preference, the words of a stoplist, a section group; and the three in the entry of an index.
use Rattle.std.specs.Prelude.{ℕ, ◌≡◌, ◌+◌, ◌-◌, ◌≤◌, Bool, true, false, ◌&&◌, nat_le, nat_lt, ◌^◌, List, [], ◌∷◌, ◌++◌, length, drop, take, codes, refl, Option, Some, None, MatchOption, Vec}
use Rattle.std.specs.Bool.{MatchBool, if◌then◌else◌}
use Rattle.std.specs.List.{flat_map, list_all}
use Rattle.std.specs.Str.{chars, is_utf8, all_scalars}
use Rattle.std.proofs.Common.{arith}
use Rattle.std.specs.declared.alloc.Global.{Global}
use lib.Utf8.{encode}
use Rattle.ucd_category.proofs.Computing.{ucd_category}
use Rattle.caseless.proofs.Computing.{caseless}
use Rattle.ct_base.specs.Names.{is_kept}
use Rattle.ct_bytes.specs.Varints.{varint, text_bytes}
use Rattle.tx_lexer.specs.CharSets.{rises}
use Rattle.tx_lexer.specs.declared.options.LexerOptions.{LexerOptions}
use Rattle.tx_lexer.specs.Tokens.{default_options}
use Rattle.tx_stop.specs.StopKeys.{are_stop_keys}
use Rattle.tx_tags.specs.declared.groups.SectionKind.{SectionKind}
use Rattle.tx_tags.specs.declared.groups.SectionKind.TheVariants.{Zone, Field, VisibleField}
use Rattle.tx_tags.specs.declared.groups.Section.{Section}
use Rattle.tx_tags.specs.Groups.{SectionGroup, is_group, zones}
use Rattle.tx_settings.specs.declared.attributes.Attribute.{Attribute}
use Rattle.tx_settings.specs.declared.attributes.Attribute.TheVariants.{BaseLetter, Endjoins, IndexText, IndexThemes, MixedCase, Numgroup, Numjoin, Printjoins, Punctuations, Skipjoins, Startjoins}
use Rattle.tx_settings.specs.declared.group_reading.Head.{Head}
use Rattle.tx_settings.specs.declared.preferences.Prefs.{Prefs}
use Rattle.tx_settings.specs.declared.attributes.Setting.{Setting}
use Rattle.tx_settings.specs.Attributes.{are_taken, attribute_name, can_be_set, char_text, setting, settings_of}
use Rattle.tx_settings.specs.Defaults.{default_prefs}

-- a list: how many items, and the items
abbrev pub listed : {X : Type 0} → (X → List ℕ) → List X → List ℕ
listed item xs = varint (length xs) ++ flat_map item xs

-- ---- settings, and words

-- an attribute's name and its value, as texts
abbrev pub setting_bytes : Setting → List ℕ
setting_bytes s = text_bytes (attribute_name s.attribute) ++ text_bytes s.value

abbrev pub settings_bytes : List Setting → List ℕ
settings_bytes ss = listed setting_bytes ss

abbrev pub words_bytes : List (List ℕ) → List ℕ
words_bytes ws = listed text_bytes ws

-- ---- the rules of what is read

-- as long as a text that is written may be
abbrev pub is_short : List ℕ → Bool
is_short text = nat_lt (length text) (2 ^ 32)

-- a text that is read
abbrev pub is_text : List ℕ → Bool
is_text text = is_short text && is_utf8 text

-- fewer than 2 ^ 32 items, of which each keeps a rule
abbrev pub are_listed : {X : Type 0} → (X → Bool) → List X → Bool
are_listed rule xs = nat_lt (length xs) (2 ^ 32) && list_all rule xs

abbrev pub are_words : List (List ℕ) → Bool
are_words ws = are_listed is_text ws

abbrev pub has_text : Setting → Bool
has_text s = is_text s.value

-- a section as it is read: its name is spelt as names are kept, and its tags are texts
abbrev pub is_section : Section → Bool
is_section s = is_kept s.name && are_words s.tags

-- fewer than 2 ^ 32 tags, each of them short
abbrev pub has_short_tags : Section → Bool
has_short_tags s = nat_lt (length s.tags) (2 ^ 32) && list_all is_short s.tags

-- the values are short
abbrev pub are_short : List Setting → Bool
are_short ss = list_all (λ (s : Setting). is_short s.value) ss

-- the place of an attribute among all
abbrev pub attribute_place : Attribute → ℕ
attribute_place BaseLetter = 0
attribute_place Endjoins = 1
attribute_place IndexText = 2
attribute_place IndexThemes = 3
attribute_place MixedCase = 4
attribute_place Numgroup = 5
attribute_place Numjoin = 6
attribute_place Printjoins = 7
attribute_place Punctuations = 8
attribute_place Skipjoins = 9
attribute_place Startjoins = 10

-- whether the attributes rise from this place on, in the order of their names
abbrev pub rise_from : ℕ → List Setting → Bool
rise_from place [] = true
rise_from place (s ∷ ss) = nat_le place (attribute_place s.attribute) && rise_from (attribute_place s.attribute + 1) ss

-- settings as they are kept: in the order of their attributes, each once, with texts as values
abbrev pub are_settings : List Setting → Bool
are_settings ss = rise_from 0 ss && list_all has_text ss

-- the settings of a lexer preference: attributes in their order, each with a value that it takes
abbrev pub are_lexer_settings : List Setting → Bool
are_lexer_settings ss = are_settings ss && are_taken ss

-- ---- section groups

abbrev pub kind_byte : SectionKind → ℕ
kind_byte Zone = 1
kind_byte Field = 2
kind_byte VisibleField = 3

-- its name, its kind, and its tags
abbrev pub section_bytes : Section → List ℕ
section_bytes s = text_bytes s.name ++ (kind_byte s.kind ∷ listed text_bytes s.tags)

-- 1 for a basic group and 2 for a null one, and the flags: 1 for sentences and 2 for paragraphs
abbrev pub null_byte : Bool → ℕ
null_byte is_null = if is_null then 2 else 1

abbrev pub flag_byte : Bool → Bool → ℕ
flag_byte sentence paragraph = (if sentence then 1 else 0) + (if paragraph then 2 else 0)

-- these, and the sections
abbrev pub group_bytes : SectionGroup → List ℕ
group_bytes g = null_byte g.is_null ∷ flag_byte g.sentence g.paragraph ∷ listed section_bytes g.sections

-- ---- the preferences of an index

abbrev pub prefs_bytes : Prefs → List ℕ
prefs_bytes p = settings_bytes (settings_of p.lexer) ++ (words_bytes p.stop ++ group_bytes p.group)

-- a set: characters that rise
abbrev pub is_set : List ℕ → Bool
is_set set = rises set && all_scalars set

-- the sets of options are sets, and what may be missing is a character
abbrev pub are_options : LexerOptions → Bool
are_options o =
    is_set o.printjoins
    && (is_set o.skipjoins
    && (is_set o.startjoins
    && (is_set o.endjoins
    && (is_set o.punctuations
    && (all_scalars (char_text o.numjoin)
    && all_scalars (char_text o.numgroup))))))

-- a group that is read: one whose sections have names as they are kept
abbrev pub is_named_group : SectionGroup → Bool
is_named_group g = is_group g && list_all (λ (s : Section). is_kept s.name) g.sections

-- The rules of the preferences that an index has: those of options, which can be set, of stop keys and of groups.
pub record IsPrefs (p : Prefs) : Type 0 where
  pub lexer : are_options p.lexer ≡ true
  pub can_be : can_be_set p.lexer ≡ true
  pub stop : are_stop_keys p.stop ≡ true
  pub group : is_group p.group ≡ true
  pub named : list_all (λ (s : Section). is_kept s.name) p.group.sections ≡ true

-- From `at` on the bytes spell this with these bytes, and `next` is the place behind them.
pub record IsSpeltAt (bytes : List ℕ) (at : ℕ) (spelling : List ℕ) (next : ℕ) : Type 0 where
  pub spelt : drop at bytes ≡ spelling ++ drop next bytes
  pub next_is : next ≡ at + length spelling
  pub within : next ≤ length bytes

-- From `at` on the bytes spell what keeps a rule.
pub record Stands {X : Type 0} (rule : X → Bool) (spelling : X → List ℕ) (bytes : List ℕ) (at : ℕ) (x : X) (next : ℕ) : Type 0 where
  pub rules : rule x ≡ true
  pub spelt : IsSpeltAt bytes at (spelling x) next

-- Nothing that keeps the rule stands there.
abbrev pub NoneStands : {X : Type 0} → (X → Bool) → (X → List ℕ) → List ℕ → ℕ → Type 0
NoneStands {X} rule spelling bytes at = (x : X) (next : ℕ) → Stands rule spelling bytes at x next → ⊥

-- What was read with the place behind it, or None where nothing that keeps the rule stands there.
abbrev pub Reads : {X : Type 0} → (X → Bool) → (X → List ℕ) → List ℕ → ℕ → Option (X × ℕ) → Type 0
Reads rule spelling bytes at found = MatchOption found (NoneStands rule spelling bytes at) (λ r. Stands rule spelling bytes at r.0 r.1)

-- The same of a list that is read into a vector.
abbrev pub ReadsList : {X : Type 0} → (List X → Bool) → (List X → List ℕ) → List ℕ → ℕ → Option (Vec X Global × ℕ) → Type 0
ReadsList rule spelling bytes at found = MatchOption found (NoneStands rule spelling bytes at) (λ r. Stands rule spelling bytes at r.0.items r.1)

-- the rule that everything keeps
abbrev pub always : {X : Type 0} → X → Bool
always x = true

abbrev pub name_bytes : Attribute → List ℕ
name_bytes a = text_bytes (attribute_name a)

abbrev pub kind_bytes : SectionKind → List ℕ
kind_bytes k = kind_byte k ∷ []

-- the first two bytes of a group
abbrev pub head_bytes : Head → List ℕ
head_bytes h = null_byte h.is_null ∷ flag_byte h.sentence h.paragraph ∷ []

-- From `at` on the bytes spell these preferences.
pub record ArePrefsAt (bytes : List ℕ) (at : ℕ) (p : Prefs) (next : ℕ) : Type 0 where
  pub are : IsPrefs p
  pub spelt : IsSpeltAt bytes at (prefs_bytes p) next

-- Whether the bytes between two places are those of these preferences; if not, they differ from these.
abbrev pub TellsWhetherSpelt : List ℕ → ℕ → ℕ → Prefs → Bool → Type 0
TellsWhetherSpelt bytes at next p is = MatchBool is (ArePrefsAt bytes at p next) (prefs_bytes p ≡ take (next - at) (drop at bytes) → ⊥)

-- Preferences that were read with the place behind them, or None where no preferences stand there.
abbrev pub ReadsPrefs : List ℕ → ℕ → Option (Prefs × ℕ) → Type 0
ReadsPrefs bytes at found = MatchOption found ((p : Prefs) (next : ℕ) → ArePrefsAt bytes at p next → ⊥) (λ r. ArePrefsAt bytes at r.0 r.1)

-- computed examples

-- the defaults are `00 00 02 00 00`
defaults : prefs_bytes default_prefs ≡ 0 ∷ 0 ∷ 2 ∷ 0 ∷ 0 ∷ []
unfolding varint encode
defaults = refl

website : prefs_bytes (record { lexer = record default_options { skipjoins = codes "-"; numjoin = None }; stop = codes "is" ∷ []; group = zones })
    ≡ 2 ∷ 7 ∷ codes "numjoin" ++ (0 ∷ 9 ∷ codes "skipjoins" ++ (1 ∷ codes "-" ++ (1 ∷ 2 ∷ codes "is"
    ++ (1 ∷ 0 ∷ 3 ∷ 1 ∷ codes "p" ++ (1 ∷ 1 ∷ 1 ∷ codes "p" ++ (1 ∷ codes "q" ++ (1 ∷ 1 ∷ 1 ∷ codes "q" ++ (1 ∷ codes "t" ++ (2 ∷ 1 ∷ 1 ∷ codes "t")))))))))
unfolding varint encode
website = refl

in_their_order : are_settings (setting Numjoin [] ∷ setting Skipjoins (codes "-") ∷ []) ≡ true
unfolding is_utf8 chars encode
in_their_order = refl

in_another_order : are_settings (setting Skipjoins (codes "-") ∷ setting Numjoin [] ∷ []) ≡ false
in_another_order = refl

one_twice : are_settings (setting Numjoin [] ∷ setting Numjoin (codes ".") ∷ []) ≡ false
one_twice = refl

no_utf8 : is_text (0xff ∷ []) ≡ false
unfolding is_utf8 chars encode
no_utf8 = refl

-- a set rises, and has characters alone
no_set : is_set (codes "_-") ≡ false
no_set = refl

no_character : is_set (0xd800 ∷ []) ≡ false
no_character = refl

not_in_lower_case : is_named_group (record zones { sections = record { name = codes "P"; kind = Zone; tags = codes "p" ∷ [] } ∷ [] }) ≡ false
not_in_lower_case = refl

two_words : Stands are_words words_bytes (9 ∷ 2 ∷ 1 ∷ codes "a" ++ (2 ∷ codes "is")) 1 (codes "a" ∷ codes "is" ∷ []) 7
unfolding varint is_utf8 chars encode
two_words = record { rules = refl; spelt = record { spelt = refl; next_is = refl; within = omega arith } }

a_kind : Reads always kind_bytes (9 ∷ 2 ∷ []) 1 (Some (Field, 2))
a_kind = record { rules = refl; spelt = record { spelt = refl; next_is = refl; within = omega arith } }

the_defaults_are : IsPrefs default_prefs
unfolding caseless ucd_category
the_defaults_are = record { lexer = refl; can_be = refl; stop = refl; group = refl; named = refl }
