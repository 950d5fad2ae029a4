-- On ASCII the default options are rules that ask no table of characters.
use Rattle.std.specs.Prelude.{ℕ, ◌≡◌, ◌==◌, Bool, true, false, ◌||◌, ◌&&◌, List, [], ◌∷◌, map, take, Option, Some, None, codes, refl}
use Rattle.std.specs.Bool.{if◌then◌else◌}
use Rattle.std.specs.Char.{is_ascii_alphanumeric, is_ascii_digit, to_ascii_lowercase}
use Rattle.std.specs.Str.{IsAscii, chars}
use Rattle.ct_base.specs.Limits.{token_limit}
use Rattle.tx_lexer.specs.CharSets.{has}
use Rattle.tx_lexer.specs.declared.roles.Role.{Role}
use Rattle.tx_lexer.specs.declared.roles.Role.TheVariants.{Out, Core, Number}
use Rattle.tx_lexer.specs.Tokens.{Rules, tokens, default}

-- whether there is a character, and an ASCII digit
abbrev pub is_ascii_digit_at : Option ℕ → Bool
is_ascii_digit_at None = false
is_ascii_digit_at (Some c) = is_ascii_digit c

-- words are made of letters and digits, and `.` and `,` between two digits join them
abbrev pub ascii_role : Option ℕ → ℕ → Option ℕ → Role
ascii_role before c after =
    if is_ascii_alphanumeric c then Core
    else (if (46 == c || 44 == c) && (is_ascii_digit_at before && is_ascii_digit_at after) then Number
    else Out)

-- keys are in lower case, cut at 255 bytes; `!`, `.` and `?` close a sentence
abbrev pub ascii_rules : Rules
ascii_rules = record { role = ascii_role; key = λ text. take token_limit (map to_ascii_lowercase text); closes = has (33 ∷ 46 ∷ 63 ∷ []) }

-- The tokens of an ASCII text by the default options are those by these rules.
abbrev pub TokensOfAscii : Type 0
TokensOfAscii = (text : List ℕ) → IsAscii text → tokens default (chars text) ≡ tokens ascii_rules text

-- computed examples

-- the `.` of `1.2`, of `1.a`, and at the end of `1.`
between_digits : ascii_role (Some 49) 46 (Some 50) ≡ Number
between_digits = refl

before_a_letter : ascii_role (Some 49) 46 (Some 97) ≡ Out
before_a_letter = refl

at_the_end : ascii_role (Some 49) 46 None ≡ Out
at_the_end = refl

a_key : ascii_rules.key (codes "Jack") ≡ codes "jack"
a_key = refl

-- `.` closes a sentence and `,` doesn't
a_full_stop : ascii_rules.closes 46 ≡ true
a_full_stop = refl

a_comma : ascii_rules.closes 44 ≡ false
a_comma = refl
