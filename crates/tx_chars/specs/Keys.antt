-- Which characters stand in words, and the key under which a word is found. General categories, normal forms and full case folding are those of the Unicode Standard, over its tables.
use Rattle.std.specs.Prelude.{ℕ, ◌≡◌, ◌-◌, nat_le, Bool, true, false, not, ◌||◌, List, [], ◌∷◌, ◌++◌, filter, codes, refl, replicate}
use Rattle.std.specs.Bool.{if◌then◌else◌}
use Rattle.std.specs.Char.{encode_utf8, len_utf8}
use lib.Utf8.{encode}
use Rattle.ucd_category.specs.declared.GeneralCategory.{GeneralCategory}
use Rattle.ucd_category.specs.declared.GeneralCategory.TheVariants.{NonspacingMark, SpacingMark, DecimalNumber}
use Rattle.ucd_category.specs.declared.GeneralCategoryGroup.TheVariants.{Letter, Number}
use Rattle.ucd_category.specs.GeneralCategory.{general_category, general_category_eq}
use Rattle.ucd_category.specs.GeneralCategoryGroup.{in_group}
use Rattle.ucd_category.proofs.Computing.{ucd_category}
use Rattle.unicode_normalization.specs.Forms.{nfd, nfc}
use Rattle.caseless.specs.Caseless.{default_case_fold}
use Rattle.caseless.proofs.Computing.{caseless}
use Rattle.ct_base.specs.Limits.{token_limit}

-- A character of words is a letter (L*), a number (N*), or a mark that is nonspacing (Mn) or spacing (Mc).
abbrev pub is_word_category : GeneralCategory → Bool
is_word_category v = in_group Letter v || (in_group Number v || (general_category_eq v NonspacingMark || general_category_eq v SpacingMark))

abbrev pub is_word : ℕ → Bool
is_word c = is_word_category (general_category c)

-- a decimal digit (Nd)
abbrev pub is_digit_category : GeneralCategory → Bool
is_digit_category v = general_category_eq v DecimalNumber

abbrev pub is_digit : ℕ → Bool
is_digit c = is_digit_category (general_category c)

-- a mark that stands on a base letter (Mn)
abbrev pub is_accent_category : GeneralCategory → Bool
is_accent_category v = general_category_eq v NonspacingMark

abbrev pub is_accent : ℕ → Bool
is_accent c = is_accent_category (general_category c)

-- full case folding, unless case is kept
abbrev pub folded : Bool → List ℕ → List ℕ
folded mixed_case cs = if mixed_case then cs else default_case_fold cs

-- without accents, where the base letters alone are asked for
abbrev pub bared : Bool → List ℕ → List ℕ
bared base_letter cs = if base_letter then filter (λ c. not (is_accent c)) cs else cs

-- the characters of the key, before it is cut
unfoldable pub key_text : Bool → Bool → List ℕ → List ℕ
key_text base_letter mixed_case text = nfc (bared base_letter (folded mixed_case (nfd text)))

-- the bytes of the characters at the beginning that have room, up to the first that has none
abbrev pub cut_at : ℕ → List ℕ → List ℕ
cut_at room [] = []
cut_at room (c ∷ cs) = if nat_le (len_utf8 c) room then encode_utf8 c ++ cut_at (room - len_utf8 c) cs else []

-- the key of some characters: the UTF-8 bytes of `key_text`, cut at the last character boundary at or below 255
abbrev pub key_of : Bool → Bool → List ℕ → List ℕ
key_of base_letter mixed_case text = cut_at token_limit (key_text base_letter mixed_case text)

-- computed examples
lower : key_of false false (codes "Web2.0") ≡ codes "web2.0"
unfolding encode caseless ucd_category key_text
lower = refl

mixed : key_of false true (codes "Web2.0") ≡ codes "Web2.0"
unfolding encode caseless ucd_category key_text
mixed = refl

-- É, in one character or in two
accented : key_of false false (codes "CAF" ++ 0xC9 ∷ []) ≡ codes "caf" ++ 0xC3 ∷ 0xA9 ∷ []
unfolding encode caseless ucd_category key_text
accented = refl

accented_apart : key_of false false (codes "CAFE" ++ 0x301 ∷ []) ≡ codes "caf" ++ 0xC3 ∷ 0xA9 ∷ []
unfolding encode caseless ucd_category key_text
accented_apart = refl

base : key_of true false (codes "CAF" ++ 0xC9 ∷ []) ≡ codes "cafe"
unfolding encode caseless ucd_category key_text
base = refl

base_mixed : key_of true true (codes "CAF" ++ 0xC9 ∷ []) ≡ codes "CAFE"
unfolding encode caseless ucd_category key_text
base_mixed = refl

-- ß in small and in capitals
sharp_s : key_of false false (codes "Stra" ++ 0xDF ∷ codes "e") ≡ codes "strasse"
unfolding encode caseless ucd_category key_text
sharp_s = refl

capital_sharp_s : key_of false false (codes "STRA" ++ 0x1E9E ∷ codes "E") ≡ codes "strasse"
unfolding encode caseless ucd_category key_text
capital_sharp_s = refl

-- a sigma at the end of a word is folded to the one in its midst
final_sigma : key_text false false (0x3A3 ∷ 0x3C3 ∷ 0x3C2 ∷ []) ≡ 0x3C3 ∷ 0x3C3 ∷ 0x3C3 ∷ []
unfolding encode caseless ucd_category key_text
final_sigma = refl

-- a capital I with a dot is an i with a dot above, which goes with the base letter alone
dotted_i : key_text false false (0x130 ∷ []) ≡ 0x69 ∷ 0x307 ∷ []
unfolding encode caseless ucd_category key_text
dotted_i = refl

dotted_i_bare : key_of true false (0x130 ∷ []) ≡ codes "i"
unfolding encode caseless ucd_category key_text
dotted_i_bare = refl

-- a folding of three characters, two of them marks that then go into one character with their letter
three_folded : key_text false false (0x390 ∷ 0xFB03 ∷ []) ≡ 0x390 ∷ 0x66 ∷ 0x66 ∷ 0x69 ∷ []
unfolding encode caseless ucd_category key_text
three_folded = refl

-- a syllable of Hangul, and its parts
hangul : key_text false false (0xD55C ∷ []) ≡ key_text false false (0x1112 ∷ 0x1161 ∷ 0x11AB ∷ [])
unfolding encode caseless ucd_category key_text
hangul = refl

-- marks in another order: a cedilla and an acute on c
marks_in_order : key_text false false (0x63 ∷ 0x301 ∷ 0x327 ∷ []) ≡ 0x1E09 ∷ []
unfolding encode caseless ucd_category key_text
marks_in_order = refl

-- an iota below is folded to a letter, before marks are dropped
iota_below : key_text true false (0x1FB3 ∷ []) ≡ 0x3B1 ∷ 0x3B9 ∷ []
unfolding encode caseless ucd_category key_text
iota_below = refl

iota_below_mixed : key_text true true (0x1FB3 ∷ []) ≡ 0x3B1 ∷ []
unfolding encode caseless ucd_category key_text
iota_below_mixed = refl

-- a mark alone has no key without marks
mark_alone : key_of true false (0x301 ∷ []) ≡ []
unfolding encode caseless ucd_category key_text
mark_alone = refl

none : key_of false false [] ≡ []
unfolding encode caseless ucd_category key_text
none = refl

-- a character of three bytes that has room, and one that has none
room_for_one : cut_at 5 (0x20AC ∷ 0x20AC ∷ []) ≡ 0xE2 ∷ 0x82 ∷ 0xAC ∷ []
unfolding encode
room_for_one = refl

-- a word of 300 letters has the key of its first 255
long_word : cut_at token_limit (replicate 300 0x61) ≡ replicate 255 0x61
unfolding encode
long_word = refl

-- a character of two bytes behind 254 letters has no room, and one behind 253 has
no_room_for_two : cut_at token_limit (replicate 254 0x61 ++ 0xE9 ∷ []) ≡ replicate 254 0x61
unfolding encode
no_room_for_two = refl

room_for_two : cut_at token_limit (replicate 253 0x61 ++ 0xE9 ∷ []) ≡ replicate 253 0x61 ++ 0xC3 ∷ 0xA9 ∷ []
unfolding encode
room_for_two = refl

-- what words are made of: é, the digit 3 of Arabic, and no sign of money
letter : is_word 0xE9 ≡ true
unfolding ucd_category
letter = refl

arabic_three : is_digit 0x663 ≡ true
unfolding ucd_category
arabic_three = refl

no_sign : is_word 0x20AC ≡ false
unfolding ucd_category
no_sign = refl
