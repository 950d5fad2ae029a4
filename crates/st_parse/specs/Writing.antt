-- How a text is written as lexemes, said without reading it.
use Rattle.std.specs.Prelude.{ℕ, ◌≡◌, ◌==◌, Bool, true, false, List, [], ◌∷◌, ◌++◌, map, codes, Some, encode_utf8_all, refl}
use Rattle.std.specs.Bool.{if◌then◌else◌}
use Rattle.std.specs.Char.{is_ascii_digit, is_ascii_alphabetic, is_whitespace, to_ascii_lowercase}
use Rattle.std.specs.List.{list_all}
use Rattle.ct_base.specs.Names.{is_name_byte}
use Rattle.st_parse.specs.declared.lexemes.Symbol.{Symbol}
use Rattle.st_parse.specs.declared.lexemes.Symbol.TheVariants.{Open, Close, Comma, Dot, Star, Equal, Less, AtMost, Greater, AtLeast, Minus}
use Rattle.st_parse.specs.declared.lexemes.Lexeme.{Lexeme}
use Rattle.st_parse.specs.declared.lexemes.Lexeme.TheVariants.{Word, Name, Text, Number, Sign}
use Rattle.st_parse.specs.Lexemes.{is_in_line, keyword_or_name}

-- the first character passes, if there is one
abbrev pub starts : (ℕ → Bool) → List ℕ → Bool
starts p [] = false
starts p (c ∷ cs) = p c

-- a text's characters with each quote twice, and the quote at its end
abbrev pub quoted : List ℕ → List ℕ
quoted [] = 39 ∷ []
quoted (c ∷ cs) = if c == 39 then 39 ∷ 39 ∷ quoted cs else c ∷ quoted cs

abbrev pub sign : Symbol → List ℕ
sign Open = 40 ∷ []
sign Close = 41 ∷ []
sign Comma = 44 ∷ []
sign Dot = 46 ∷ []
sign Star = 42 ∷ []
sign Equal = 61 ∷ []
sign Less = 60 ∷ []
sign AtMost = 60 ∷ 61 ∷ []
sign Greater = 62 ∷ []
sign AtLeast = 62 ∷ 61 ∷ []
sign Minus = 45 ∷ []

-- a letter and then letters, digits, `_`, `$` and `#`, which in lower case are this keyword or name
abbrev pub IsWordOf : Lexeme → List ℕ → Type 0
IsWordOf l [] = ⊥
IsWordOf l (c ∷ cs) = (is_ascii_alphabetic c ≡ true) × (list_all is_name_byte cs ≡ true) × (keyword_or_name (map to_ascii_lowercase (c ∷ cs)) ≡ Some l)

abbrev pub IsDigits : List ℕ → Type 0
IsDigits [] = ⊥
IsDigits (c ∷ cs) = list_all is_ascii_digit (c ∷ cs) ≡ true

-- these characters are the lexeme
abbrev pub IsWritten : Lexeme → List ℕ → Type 0
IsWritten (Word k) w = IsWordOf (Word k) w
IsWritten (Name n) w = IsWordOf (Name n) w
IsWritten (Text t) w = (cs : List ℕ) × (t ≡ encode_utf8_all cs) × (w ≡ 39 ∷ quoted cs)
IsWritten (Number ds) w = (w ≡ ds) × IsDigits ds
IsWritten (Sign s) w = w ≡ sign s

-- a character that would belong to the lexeme if it stood right after it
abbrev pub joins_sign : Symbol → ℕ → Bool
joins_sign Less c = c == 61
joins_sign Greater c = c == 61
joins_sign Minus c = c == 45
joins_sign s c = false

abbrev pub joins : Lexeme → ℕ → Bool
joins (Word k) c = is_name_byte c
joins (Name n) c = is_name_byte c
joins (Text t) c = c == 39
joins (Number ds) c = is_ascii_digit c
joins (Sign s) c = joins_sign s c

-- what stands between lexemes: a white character, or a comment without its end
pub data Blank : Type 0 where
  White : ℕ → Blank
  Comment : List ℕ → Blank

-- The text is these blanks and the rest. A comment ends at a newline or at the end.
abbrev pub IsGap : List Blank → List ℕ → List ℕ → Type 0
IsGap [] text rest = text ≡ rest
IsGap (White c ∷ bs) text rest = (mid : List ℕ) × (text ≡ c ∷ mid) × (is_whitespace c ≡ true) × IsGap bs mid rest
IsGap (Comment line ∷ bs) text rest =
    (mid : List ℕ) × (text ≡ 45 ∷ 45 ∷ (line ++ mid)) × (list_all is_in_line line ≡ true) × (starts is_in_line mid ≡ false) × IsGap bs mid rest

-- the text is these lexemes with gaps between them, and no lexeme could be longer
abbrev pub IsText : List Lexeme → List ℕ → Type 0
IsText [] text = (gap : List Blank) × IsGap gap text []
IsText (l ∷ ls) text = (gap : List Blank) × ((w rest : List ℕ) × IsGap gap text (w ++ rest) × IsWritten l w × (starts (joins l) rest ≡ false) × IsText ls rest)

-- computed examples
a_quote_twice : quoted (codes "it's") ≡ codes "it''s'"
a_quote_twice = refl

-- a minus, a blank, and a number of one digit
minus_one : IsText (Sign Minus ∷ Number (codes "1") ∷ []) (codes "- 1")
minus_one = ([], (codes "-", codes " 1", refl, refl, refl, (White 32 ∷ [], (codes "1", [], (codes "1", refl, refl, refl), (refl, refl), refl, ([], refl)))))

-- a digit more would belong to the number
longest : starts (joins (Number (codes "1"))) (codes "2") ≡ true
longest = refl
