-- The lexemes of a query text of CATSEARCH. Texts are lists of characters here; places are counted in bytes from 1.
use Rattle.std.specs.Prelude.{ℕ, zero, suc, ◌≡◌, ◌+◌, ◌-◌, ◌==◌, nat_lt, not, ◌||◌, ◌&&◌, Bool, true, false, List, [], ◌∷◌, ◌++◌, length, Option, Some, None, codes, refl}
use Rattle.std.specs.Bool.{if◌then◌else◌}
use Rattle.std.specs.Char.{is_whitespace, encode_utf8, len_utf8}
use lib.Utf8.{encode}
use Rattle.q_tree.specs.declared.queries.WordBit.{WordBit}
use Rattle.q_tree.specs.declared.queries.WordBit.TheVariants.{Chars, Many}
use Rattle.q_tree.specs.declared.queries.Word.{Word}
use Rattle.q_lex.specs.Lexing.{byte_count}
use Rattle.cat_query.specs.declared.lexemes.Lexeme.{Lexeme}
use Rattle.cat_query.specs.declared.lexemes.Lexeme.TheVariants.{Item, Minus, Bar, Open, Close, Bad}
use Rattle.cat_query.specs.declared.lexemes.Placed.{Placed}

-- a character of words: any but white space, `(`, `)`, `|` and `"`
abbrev pub is_word_char : ℕ → Bool
is_word_char c = not (is_whitespace c || (c == 40) || (c == 41) || (c == 124) || (c == 34))

-- the word at the beginning, and what follows it
abbrev pub run : List ℕ → List ℕ
run [] = []
run (c ∷ cs) = if is_word_char c then c ∷ run cs else []

abbrev pub after_run : List ℕ → List ℕ
after_run [] = []
after_run (c ∷ cs) = if is_word_char c then after_run cs else c ∷ cs

-- characters that stand for themselves, in UTF-8
abbrev pub literal : List ℕ → List WordBit
literal [] = []
literal (b ∷ bs) = Chars (b ∷ bs) ∷ []

-- the bits of a word, of which these bytes stand before the rest: a `*` stands for any characters
abbrev pub bits_from : List ℕ → List ℕ → List WordBit
bits_from bytes [] = literal bytes
bits_from bytes (c ∷ cs) = if c == 42 then literal bytes ++ Many ∷ bits_from [] cs else bits_from (bytes ++ encode_utf8 c) cs

-- white space, or the end of the text
abbrev pub ends_word : List ℕ → Bool
ends_word [] = true
ends_word (c ∷ cs) = is_whitespace c

abbrev pub begins_with_star : List ℕ → Bool
begins_with_star [] = false
begins_with_star (c ∷ cs) = c == 42

abbrev pub is_dash : List ℕ → Bool
is_dash (c ∷ []) = c == 45
is_dash cs = false

abbrev pub word : ℕ → List WordBit → Word
word place bits = record { place = place; bits = bits }

-- what a run of word characters is; `alone` says that white space, or an end of the text, stands on both sides of it
abbrev pub run_lexeme : ℕ → Bool → List ℕ → Lexeme
run_lexeme place alone cs =
    if alone && is_dash cs then Minus
    else (if begins_with_star cs then Bad else Item (word place (bits_from [] cs)))

-- Of a text whose quote was opened and that has these bytes so far: all its bytes, and what follows the next quote.
abbrev pub quoted : List ℕ → List ℕ → Option (List ℕ × List ℕ)
quoted bytes [] = None
quoted bytes (c ∷ cs) = if c == 34 then Some (bytes, cs) else quoted (bytes ++ encode_utf8 c) cs

-- a quote that isn't closed is bad by itself
abbrev pub quoted_lexeme : ℕ → List ℕ → Option (List ℕ × List ℕ) → Lexeme × List ℕ
quoted_lexeme place cs None = (Bad, cs)
quoted_lexeme place cs (Some p) = (Item (word place (literal p.0)), p.1)

-- the lexeme that a sign is by itself
abbrev pub sign_lexeme : ℕ → Lexeme
sign_lexeme c = if c == 40 then Open else (if c == 41 then Close else (if c == 124 then Bar else Bad))

abbrev pub placed : ℕ → Lexeme → Placed
placed place lexeme = record { place = place; lexeme = lexeme }

-- the word that begins with this character, as a lexeme, and what follows it
abbrev pub word_at : ℕ → Bool → ℕ → List ℕ → Lexeme × List ℕ
word_at place free c cs = (run_lexeme place (free && ends_word (after_run (c ∷ cs))) (run (c ∷ cs)), after_run (c ∷ cs))

-- The lexeme that begins with a character that isn't white space, and what follows it; `free` says that white space, or the beginning of the text,
-- stands before it.
abbrev pub lexeme_at : ℕ → Bool → ℕ → List ℕ → Lexeme × List ℕ
lexeme_at place free c cs =
    if c == 34 then quoted_lexeme place cs (quoted [] cs)
    else (if is_word_char c then word_at place free c cs
    else (sign_lexeme c, cs))

-- it, and the lexemes after it
abbrev pub with_lexeme : (ℕ → List ℕ → List Placed) → ℕ → List ℕ → Lexeme × List ℕ → List Placed
with_lexeme more place text found = placed place found.0 ∷ more (place + (byte_count text - byte_count found.1)) found.1

-- The lexemes of a text whose first byte has this place. At most n characters are looked at, so n is to be its length.
abbrev pub lexemes_from : ℕ → ℕ → Bool → List ℕ → List Placed
lexemes_from zero place free cs = []
lexemes_from (suc n) place free [] = []
lexemes_from (suc n) place free (c ∷ cs) =
    if is_whitespace c then lexemes_from n (place + len_utf8 c) true cs
    else with_lexeme (λ at rest. lexemes_from n at false rest) place (c ∷ cs) (lexeme_at place free c cs)

abbrev pub query_lexemes : List ℕ → List Placed
query_lexemes text = lexemes_from (length text) 1 true text

-- the lexemes without their places
abbrev pub bare : List Placed → List Lexeme
bare [] = []
bare (p ∷ ps) = p.lexeme ∷ bare ps

-- how many parentheses are open after the lexeme; a `)` too many closes nothing
abbrev pub depth_after : ℕ → Lexeme → ℕ
depth_after n Open = n + 1
depth_after n Close = n - 1
depth_after n l = n

-- whether over 32 parentheses are open at some place, where n are open before these lexemes
abbrev pub too_deep : ℕ → List Placed → Bool
too_deep n [] = false
too_deep n (p ∷ ps) = nat_lt 32 (depth_after n p.lexeme) || too_deep (depth_after n p.lexeme) ps

-- over 4000 bytes, over 1024 lexemes, or over 32 open parentheses
abbrev pub too_large : List ℕ → Bool
too_large text = nat_lt 4000 (byte_count text) || (nat_lt 1024 (length (query_lexemes text)) || too_deep 0 (query_lexemes text))

-- computed examples
red_without_blue : query_lexemes (codes "red - blue") ≡ placed 1 (Item (word 1 (Chars (codes "red") ∷ []))) ∷ placed 5 Minus ∷ placed 7 (Item (word 7 (Chars (codes "blue") ∷ []))) ∷ []
unfolding encode
red_without_blue = refl

one_word : query_lexemes (codes "red-blue") ≡ placed 1 (Item (word 1 (Chars (codes "red-blue") ∷ []))) ∷ []
unfolding encode
one_word = refl

-- neither is a `-` that has a parenthesis or a quote next to it
no_minus : query_lexemes (codes "(- a") ≡ placed 1 Open ∷ placed 2 (Item (word 2 (Chars (codes "-") ∷ []))) ∷ placed 4 (Item (word 4 (Chars (codes "a") ∷ []))) ∷ []
unfolding encode
no_minus = refl

a_wildcard : query_lexemes (codes "h*t") ≡ placed 1 (Item (word 1 (Chars (codes "h") ∷ Many ∷ Chars (codes "t") ∷ []))) ∷ []
unfolding encode
a_wildcard = refl

a_bad_word : query_lexemes (codes "a *ed") ≡ placed 1 (Item (word 1 (Chars (codes "a") ∷ []))) ∷ placed 3 Bad ∷ []
unfolding encode
a_bad_word = refl

-- between quotes everything stands for itself
a_quoted_text : query_lexemes (codes "\"a *|b\"c") ≡ placed 1 (Item (word 1 (Chars (codes "a *|b") ∷ []))) ∷ placed 8 (Item (word 8 (Chars (codes "c") ∷ []))) ∷ []
unfolding encode
a_quoted_text = refl

an_empty_one : query_lexemes (codes "\"\"") ≡ placed 1 (Item (word 1 [])) ∷ []
an_empty_one = refl

left_open : query_lexemes (codes "\"a") ≡ placed 1 Bad ∷ placed 2 (Item (word 2 (Chars (codes "a") ∷ []))) ∷ []
unfolding encode
left_open = refl
