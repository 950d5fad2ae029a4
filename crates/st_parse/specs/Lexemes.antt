-- The lexemes of a statement. Each is the longest that begins at its place.
use Rattle.std.specs.Prelude.{ℕ, zero, suc, ◌≡◌, ◌==◌, Bool, not, ◌&&◌, List, [], ◌∷◌, ◌++◌, map, length, drop, codes, Option, Some, None, refl}
use Rattle.std.specs.Bool.{if◌then◌else◌}
use Rattle.std.specs.Char.{is_ascii_digit, is_ascii_alphabetic, is_whitespace, to_ascii_lowercase, encode_utf8}
use lib.Utf8.{encode}
use Rattle.ct_base.specs.Characters.{is_first}
use Rattle.ct_base.specs.Names.{is_name_byte, is_spelling}
use Rattle.st_parse.specs.declared.lexemes.Keyword.{Keyword}
use Rattle.st_parse.specs.declared.lexemes.Keyword.TheVariants.{Exec}
use Rattle.st_parse.specs.declared.lexemes.Symbol.{Symbol}
use Rattle.st_parse.specs.declared.lexemes.Symbol.TheVariants.{Open, Close, Comma, Dot, Star, Equal, Less, AtMost, Greater, AtLeast, Minus}
use Rattle.st_parse.specs.declared.lexemes.Lexeme.{Lexeme}
use Rattle.st_parse.specs.declared.lexemes.Lexeme.TheVariants.{Word, Name, Text, Number, Sign}
use Rattle.st_parse.specs.Keywords.{keyword_of}

-- the value goes on into the function; None where there is none
infixl 10 ◌>>=◌
abbrev pub ◌>>=◌ : {A B : Type 0} → Option A → (A → Option B) → Option B
None >>= f = None
(Some a) >>= f = f a

-- the characters at the beginning that pass, and what follows them
abbrev pub run : (ℕ → Bool) → List ℕ → List ℕ
run p [] = []
run p (c ∷ cs) = if p c then c ∷ run p cs else []

abbrev pub after_run : (ℕ → Bool) → List ℕ → List ℕ
after_run p [] = []
after_run p (c ∷ cs) = if p c then after_run p cs else c ∷ cs

-- all but a newline
abbrev pub is_in_line : ℕ → Bool
is_in_line c = not (c == 10)

-- A word in lower case is a keyword, or else a name where it isn't too long for one.
abbrev pub name_lexeme : List ℕ → Option Lexeme
name_lexeme word = if is_spelling word then Some (Name word) else None

abbrev pub word_or : List ℕ → Option Keyword → Option Lexeme
word_or word (Some k) = Some (Word k)
word_or word None = name_lexeme word

abbrev pub keyword_or_name : List ℕ → Option Lexeme
keyword_or_name word = word_or word (keyword_of word)

-- Of a text whose quote was opened and that has these bytes so far: all its bytes, and what follows its last quote. A quote is 39.
abbrev pub text_at : List ℕ → List ℕ → Option (List ℕ × List ℕ)
text_at prefix [] = None
text_at prefix (c ∷ []) = if c == 39 then Some (prefix, []) else None
text_at prefix (c ∷ d ∷ cs) =
    if c == 39 then (if d == 39 then text_at (prefix ++ 39 ∷ []) cs else Some (prefix, d ∷ cs))
    else text_at (prefix ++ encode_utf8 c) (d ∷ cs)

abbrev pub sign_of : ℕ → Option Symbol
sign_of c =
    if c == 40 then Some Open
    else (if c == 41 then Some Close
    else (if c == 44 then Some Comma
    else (if c == 46 then Some Dot
    else (if c == 42 then Some Star
    else (if c == 61 then Some Equal
    else (if c == 60 then Some Less
    else (if c == 62 then Some Greater
    else (if c == 45 then Some Minus
    else None))))))))

-- the sign that c is, with a `=` after it where one stands there, and what follows it
abbrev pub sign_at : ℕ → List ℕ → Option (Symbol × List ℕ)
sign_at c cs =
    if (c == 60) && is_first 61 cs then Some (AtMost, drop 1 cs)
    else (if (c == 62) && is_first 61 cs then Some (AtLeast, drop 1 cs)
    else (sign_of c >>= λ s. Some (s, cs)))

-- the lexeme at the beginning, and what follows it
abbrev pub lexeme_at : List ℕ → Option (Lexeme × List ℕ)
lexeme_at [] = None
lexeme_at (c ∷ cs) =
    if is_ascii_alphabetic c then (keyword_or_name (map to_ascii_lowercase (run is_name_byte (c ∷ cs))) >>= λ w. Some (w, after_run is_name_byte (c ∷ cs)))
    else (if is_ascii_digit c then Some (Number (run is_ascii_digit (c ∷ cs)), after_run is_ascii_digit (c ∷ cs))
    else (if c == 39 then (text_at [] cs >>= λ t. Some (Text t.0, t.1))
    else (sign_at c cs >>= λ s. Some (Sign s.0, s.1))))

-- a comment runs from `--` to the end of the line
abbrev pub begins_comment : ℕ → List ℕ → Bool
begins_comment c cs = (c == 45) && is_first 45 cs

-- the lexemes of a text of at most n characters; none are read where a place begins no lexeme
abbrev pub lexemes_in : ℕ → List ℕ → Option (List Lexeme)
lexemes_in zero cs = Some []
lexemes_in (suc n) [] = Some []
lexemes_in (suc n) (c ∷ cs) =
    if is_whitespace c then lexemes_in n cs
    else (if begins_comment c cs then lexemes_in n (after_run is_in_line cs)
    else (lexeme_at (c ∷ cs) >>= λ l. lexemes_in n l.1 >>= λ ls. Some (l.0 ∷ ls)))

abbrev pub lexemes : List ℕ → Option (List Lexeme)
lexemes text = lexemes_in (length text) text

-- computed examples
call : lexemes (codes "EXEC Ctx_Doc.Policy_Tokens('it''s', <=-12a) -- no 'text")
    ≡ Some (Word Exec ∷ Name (codes "ctx_doc") ∷ Sign Dot ∷ Name (codes "policy_tokens") ∷ Sign Open
    ∷ Text (codes "it's") ∷ Sign Comma ∷ Sign AtMost ∷ Sign Minus ∷ Number (codes "12") ∷ Name (codes "a") ∷ Sign Close ∷ [])
unfolding encode
call = refl

only_comments : lexemes (codes " -- a 'note\n\t--") ≡ Some []
only_comments = refl

unclosed : lexemes (codes "x 'it''") ≡ None
unfolding encode
unclosed = refl

no_lexeme : lexemes (codes "%") ≡ None
no_lexeme = refl

too_long_for_a_name : lexemes (codes "a234567890123456789012345678901") ≡ None
too_long_for_a_name = refl
