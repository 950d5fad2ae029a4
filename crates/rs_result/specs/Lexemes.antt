-- The lexemes of a descriptor. Each is the longest that begins at its place. Characters: `/` is 47, `,` is 44, `0` is 48.
use Rattle.std.specs.Prelude.{ℕ, zero, suc, ◌≡◌, ◌+◌, ◌*◌, ◌-◌, ◌==◌, nat_lt, Bool, List, [], ◌∷◌, map, length, codes, Option, Some, None, refl}
use Rattle.std.specs.Bool.{if◌then◌else◌}
use Rattle.std.specs.Char.{is_ascii_digit, is_ascii_alphabetic, is_whitespace, to_ascii_lowercase}
use Rattle.ct_base.specs.Names.{is_name_byte, is_spelling}
use Rattle.rs_result.specs.declared.lexemes.Lexeme.{Lexeme}
use Rattle.rs_result.specs.declared.lexemes.Lexeme.TheVariants.{Slash, Comma, Number, Word}

-- the value goes on into the function; None where there is none
infixl 10 ◌>>=◌
abbrev pub ◌>>=◌ : {A B : Type 0} → Option A → (A → Option B) → Option B
None >>= f = None
(Some a) >>= f = f a

-- the characters at the beginning that pass, and what follows them
abbrev pub run : (ℕ → Bool) → List ℕ → List ℕ
run p [] = []
run p (c ∷ cs) = if p c then c ∷ run p cs else []

abbrev pub after_run : (ℕ → Bool) → List ℕ → List ℕ
after_run p [] = []
after_run p (c ∷ cs) = if p c then after_run p cs else c ∷ cs

-- the value of digits in base ten that follow digits of value n
abbrev pub value_after : ℕ → List ℕ → ℕ
value_after n [] = n
value_after n (d ∷ ds) = value_after (n * 10 + (d - 48)) ds

-- a number up to 100,000; 0 stands for each greater one
abbrev pub bounded : ℕ → ℕ
bounded n = if nat_lt 100000 n then 0 else n

abbrev pub number_of : List ℕ → ℕ
number_of digits = bounded (value_after 0 digits)

-- what a reader may keep of a number instead of it
abbrev pub capped : ℕ → ℕ
capped n = if nat_lt 100000 n then 100001 else n

-- a word in lower case, where it isn't too long for a name
abbrev pub word_lexeme : List ℕ → Option Lexeme
word_lexeme word = if is_spelling word then Some (Word word) else None

-- the lexeme at the beginning, and what follows it
abbrev pub lexeme_at : List ℕ → Option (Lexeme × List ℕ)
lexeme_at [] = None
lexeme_at (c ∷ cs) =
    if is_ascii_alphabetic c then (word_lexeme (map to_ascii_lowercase (run is_name_byte (c ∷ cs))) >>= λ w. Some (w, after_run is_name_byte (c ∷ cs)))
    else (if is_ascii_digit c then Some (Number (number_of (run is_ascii_digit (c ∷ cs))), after_run is_ascii_digit (c ∷ cs))
    else (if c == 47 then Some (Slash, cs)
    else (if c == 44 then Some (Comma, cs)
    else None)))

-- the lexemes of a text of at most n characters; none are read where a place begins no lexeme
abbrev pub lexemes_in : ℕ → List ℕ → Option (List Lexeme)
lexemes_in zero cs = Some []
lexemes_in (suc n) [] = Some []
lexemes_in (suc n) (c ∷ cs) =
    if is_whitespace c then lexemes_in n cs
    else (lexeme_at (c ∷ cs) >>= λ l. lexemes_in n l.1 >>= λ ls. Some (l.0 ∷ ls))

abbrev pub lexemes : List ℕ → Option (List Lexeme)
lexemes text = lexemes_in (length text) text

-- computed examples
hits_and_count : lexemes (codes "Hits 01 to 100000/count") ≡ Some (Word (codes "hits") ∷ Number 1 ∷ Word (codes "to") ∷ Number 100000 ∷ Slash ∷ Word (codes "count") ∷ [])
hits_and_count = refl

too_great : lexemes (codes "100001,0") ≡ Some (Number 0 ∷ Comma ∷ Number 0 ∷ [])
too_great = refl

a_digit_first : lexemes (codes "2nd") ≡ Some (Number 2 ∷ Word (codes "nd") ∷ [])
a_digit_first = refl

no_lexeme : lexemes (codes "count;") ≡ None
no_lexeme = refl

too_long : lexemes (codes "a234567890123456789012345678901") ≡ None
too_long = refl

only_white_space : lexemes (codes " ") ≡ Some []
only_white_space = refl
