-- What holds of the characters of words and of keys.
use Rattle.std.specs.Prelude.{ℕ, ◌≡◌, ◌<◌, ◌≤◌, ◌↔◌, Bool, true, List, [], map, take, length}
use Rattle.std.specs.Bool.{if◌then◌else◌}
use Rattle.std.specs.Char.{to_ascii_lowercase, is_ascii_alphanumeric, is_ascii_digit}
use Rattle.std.specs.Str.{IsAscii, IsUtf8, all_scalars, chars, encode_utf8_all}
use Rattle.ct_base.specs.Limits.{token_limit}
use Rattle.tx_chars.specs.Keys.{is_word, is_digit, key_text, key_of}

-- On ASCII words are made of letters and digits, and the decimal digits are 0 to 9.
abbrev pub WordsAreAlphanumeric : Type 0
WordsAreAlphanumeric = (c : ℕ) → c < 128 → is_word c ≡ is_ascii_alphanumeric c

abbrev pub DigitsAreDecimal : Type 0
DigitsAreDecimal = (c : ℕ) → c < 128 → is_digit c ≡ is_ascii_digit c

-- some ASCII bytes in lower case, or as they are where case is kept
abbrev pub lowered : Bool → List ℕ → List ℕ
lowered mixed_case cs = if mixed_case then cs else map to_ascii_lowercase cs

-- The key of an ASCII text is that text in lower case, cut at 255 bytes.
abbrev pub KeysOfAscii : Type 0
KeysOfAscii = (base_letter mixed_case : Bool) (bs : List ℕ) → IsAscii bs → key_of base_letter mixed_case (chars bs) ≡ take token_limit (lowered mixed_case bs)

-- The key of a text is a text.
abbrev pub KeysAreUtf8 : Type 0
KeysAreUtf8 = (base_letter mixed_case : Bool) (text : List ℕ) → all_scalars text ≡ true → IsUtf8 (key_of base_letter mixed_case text)

-- Nothing is cut where all has room.
abbrev pub KeysAreWhole : Type 0
KeysAreWhole = (base_letter mixed_case : Bool) (text : List ℕ) → length (encode_utf8_all (key_text base_letter mixed_case text)) ≤ token_limit
    → key_of base_letter mixed_case text ≡ encode_utf8_all (key_text base_letter mixed_case text)

-- A key is empty exactly where nothing is left of its text before it is cut.
abbrev pub EmptyKeys : Type 0
EmptyKeys = (base_letter mixed_case : Bool) (text : List ℕ) → (key_of base_letter mixed_case text ≡ []) ↔ (key_text base_letter mixed_case text ≡ [])
