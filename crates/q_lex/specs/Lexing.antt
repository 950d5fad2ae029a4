-- The lexemes of a text, as they are read. Texts are lists of characters here; places are counted in bytes from 1.
-- That these are the lexemes as which the text is written (`IsWrittenAs`), and that it is written as no others, is the law `one_list_of_lexemes`.
use Rattle.std.specs.Prelude.{ℕ, zero, suc, ◌≡◌, ◌+◌, ◌-◌, ◌==◌, ◌≤◌, nat_lt, is_some, not, ◌||◌, ◌&&◌, Bool, true, false, List, [], ◌∷◌, ◌++◌, length, Option, Some, None, codes, refl}
use Rattle.std.specs.Bool.{if◌then◌else◌}
use Rattle.std.specs.List.{list_any}
use Rattle.std.specs.Char.{is_whitespace, encode_utf8, len_utf8}
use Rattle.ct_base.specs.Characters.{first}
use Rattle.q_tree.specs.declared.queries.Relation.TheVariants.{Syn, Broader, Narrower, Preferred}
use Rattle.q_tree.specs.declared.queries.WordBit.{WordBit}
use Rattle.q_tree.specs.declared.queries.WordBit.TheVariants.{Chars, One, Many}
use Rattle.q_lex.specs.declared.lexemes.Written.{Written}
use Rattle.q_lex.specs.declared.lexemes.Infix.TheVariants.{Or, And, Not, MinusWord, MinusSign}
use Rattle.q_lex.specs.declared.lexemes.Placed.{Placed}
use Rattle.q_lex.specs.declared.lexemes.Lexeme.{Lexeme}
use Rattle.q_lex.specs.declared.lexemes.Lexeme.TheVariants.{Word, Operator, Equiv, Near, Within, Star, Greater, Open, Close, Comma, Define, Thes, Refused, Bad}
use Rattle.q_lex.specs.Words.{says}

-- one of  & | ~ - = * > ; ( ) , [ ] ? ! $
abbrev pub is_sign_char : ℕ → Bool
is_sign_char c = (c == 38) || (c == 124) || (c == 126) || (c == 45) || (c == 61) || (c == 42) || (c == 62) || (c == 59) || (c == 40) || (c == 41) || (c == 44) || (c == 91) || (c == 93) || (c == 63) || (c == 33) || (c == 36)

-- a plain character: any but white space, a sign, `{`, `}` and `\`
abbrev pub is_plain_char : ℕ → Bool
is_plain_char c = not (is_whitespace c || is_sign_char c || (c == 123) || (c == 125) || (c == 92))

-- the braced text with one character more in front
abbrev pub with_front : ℕ → Option (List ℕ × List ℕ) → Option (List ℕ × List ℕ)
with_front c None = None
with_front c (Some p) = Some (c ∷ p.0, p.1)

-- the braced text whose `{` stands in front of this, where it is closed, and what follows it
abbrev pub braced : List ℕ → Option (List ℕ × List ℕ)
braced [] = None
braced (c ∷ []) = if c == 125 then Some ([], []) else None
braced (c ∷ d ∷ cs) =
    if c == 125 then (if d == 125 then with_front 125 (braced cs) else Some ([], d ∷ cs))
    else with_front c (braced (d ∷ cs))

-- whether a piece of a word stands here: a plain character, a `\` with a character behind it, or a braced text that is closed
abbrev pub begins_word : List ℕ → Bool
begins_word [] = false
begins_word (c ∷ cs) = is_plain_char c || ((c == 92) && is_some (first cs)) || ((c == 123) && is_some (braced cs))

-- A word so far: its bits, the characters behind the last wildcard, its spelling, and whether that is of plain characters alone. Texts are in UTF-8.
pub record Run : Type 0 where
  pub bits : List WordBit
  pub chars : List ℕ
  pub spelling : List ℕ
  pub plain : Bool

abbrev pub no_run : Run
no_run = record { bits = []; chars = []; spelling = []; plain = true }

-- the bits with the characters behind the last wildcard
abbrev pub flushed_to : List WordBit → List ℕ → List WordBit
flushed_to bits [] = bits
flushed_to bits (b ∷ bs) = bits ++ Chars (b ∷ bs) ∷ []

abbrev pub flushed : Run → List WordBit
flushed r = flushed_to r.bits r.chars

-- a character that stands for itself, whatever it is: it was written behind a `\` or in braces
abbrev pub put_literal : ℕ → Run → Run
put_literal c r = record { bits = r.bits; chars = r.chars ++ encode_utf8 c; spelling = r.spelling; plain = false }

-- the characters of a braced text, which may be none
abbrev pub put_literals : List ℕ → Run → Run
put_literals [] r = record { bits = r.bits; chars = r.chars; spelling = r.spelling; plain = false }
put_literals (c ∷ cs) r = put_literals cs (put_literal c r)

-- a braced text put into a word, and what follows it
abbrev pub put_in : Run → Option (List ℕ × List ℕ) → Option (Run × List ℕ)
put_in r None = None
put_in r (Some p) = Some (put_literals p.0 r, p.1)

abbrev pub put_wildcard : WordBit → ℕ → Run → Run
put_wildcard bit c r = record { bits = flushed r ++ bit ∷ []; chars = []; spelling = r.spelling ++ encode_utf8 c; plain = r.plain }

-- a plain character: `_` and `%` are wildcards
abbrev pub put_plain : ℕ → Run → Run
put_plain c r =
    if c == 95 then put_wildcard One c r
    else (if c == 37 then put_wildcard Many c r
    else record { bits = r.bits; chars = r.chars ++ encode_utf8 c; spelling = r.spelling ++ encode_utf8 c; plain = r.plain })

-- A `\` and the character behind it go on in the word. At the end of the text a `\` ends it.
abbrev pub escaped : (Run → List ℕ → Run × List ℕ) → Run → ℕ → List ℕ → Run × List ℕ
escaped more r c [] = (r, c ∷ [])
escaped more r c (d ∷ ds) = more (put_literal d r) ds

-- a braced text goes on in the word where it is closed, and else ends it
abbrev pub in_braces : (Run → List ℕ → Run × List ℕ) → Run → List ℕ → Option (List ℕ × List ℕ) → Run × List ℕ
in_braces more r text None = (r, text)
in_braces more r text (Some p) = more (put_literals p.0 r) p.1

-- The word that has begun so, and what follows it. At most n characters of the text are looked at, so n is to be its length.
abbrev pub word_from : ℕ → Run → List ℕ → Run × List ℕ
word_from zero r cs = (r, cs)
word_from (suc n) r [] = (r, [])
word_from (suc n) r (c ∷ cs) =
    if is_plain_char c then word_from n (put_plain c r) cs
    else (if c == 92 then escaped (λ q ds. word_from n q ds) r c cs
    else (if c == 123 then in_braces (λ q ds. word_from n q ds) r (c ∷ cs) (braced cs) else (r, c ∷ cs)))

-- The word that stands in front of a text, however many characters are allowed for: where nothing is left out, it is this one, and this follows it.
abbrev pub ReadsWord : Run → List ℕ → Run → List ℕ → Type 0
ReadsWord r text last rest = (n : ℕ) → length text ≤ n → word_from n r text ≡ (last, rest)

-- the word that has been read, with its place
abbrev pub written_at : ℕ → Run → Written
written_at place r = record { word = record { place = place; bits = flushed r }; plain = if r.plain then Some r.spelling else None }

-- the lexeme that a character is by itself
abbrev pub sign_lexeme : ℕ → Lexeme
sign_lexeme c =
    if c == 38 then Operator And
    else (if c == 124 then Operator Or
    else (if c == 126 then Operator Not
    else (if c == 45 then Operator MinusSign
    else (if c == 61 then Equiv
    else (if c == 42 then Star
    else (if c == 62 then Greater
    else (if c == 59 then Near
    else (if c == 40 then Open
    else (if c == 41 then Close
    else (if c == 44 then Comma
    else (if is_sign_char c then Refused else Bad)))))))))))

-- whether the next lexeme is `(`
abbrev pub opens : List ℕ → Bool
opens [] = false
opens (c ∷ cs) = if is_whitespace c then opens cs else c == 40

-- the functions of other products
abbrev pub refused_functions : List (List ℕ)
refused_functions = codes "about" ∷ codes "fuzzy" ∷ codes "haspath" ∷ codes "inpath" ∷ codes "mdata" ∷ codes "sdata" ∷ codes "ndata" ∷ codes "sqe" ∷ codes "rt" ∷ codes "tt" ∷ codes "tr" ∷ codes "trsyn" ∷ codes "btg" ∷ codes "btp" ∷ codes "bti" ∷ codes "ntg" ∷ codes "ntp" ∷ codes "nti" ∷ []

-- what a word is in front of a `(`, where it is no operator
abbrev pub function_lexeme : Written → Lexeme
function_lexeme w =
    if says (codes "definescore") w then Define
    else (if says (codes "syn") w then Thes Syn
    else (if says (codes "pt") w then Thes Preferred
    else (if says (codes "bt") w then Thes Broader
    else (if says (codes "nt") w then Thes Narrower
    else (if list_any (λ word. says word w) refused_functions then Refused else Word w)))))

-- what a word is, in any ASCII case, and whether the next lexeme is `(`
abbrev pub word_lexeme : Bool → Written → Lexeme
word_lexeme before_open w =
    if says (codes "and") w then Operator And
    else (if says (codes "or") w then Operator Or
    else (if says (codes "not") w then Operator Not
    else (if says (codes "minus") w then Operator MinusWord
    else (if says (codes "equiv") w then Equiv
    else (if says (codes "near") w then Near
    else (if says (codes "within") w then Within
    else (if says (codes "accum") w then Refused
    else (if before_open then function_lexeme w else Word w))))))))

-- A lexeme and the place of its first byte in the text.
abbrev pub placed : ℕ → Lexeme → Placed
placed place lexeme = record { place = place; lexeme = lexeme }

-- The lexeme that a word is, and what follows it.
pub record IsWordAt (place : ℕ) (text : List ℕ) (lexeme : Lexeme) (rest : List ℕ) : Type 0 where
  pub run : Run
  pub reads : ReadsWord no_run text run rest
  pub is : lexeme ≡ word_lexeme (opens rest) (written_at place run)

-- how many bytes the characters have in UTF-8
abbrev pub byte_count : List ℕ → ℕ
byte_count [] = 0
byte_count (c ∷ cs) = len_utf8 c + byte_count cs

-- the word that stands here, and the lexemes behind it
abbrev pub with_word : (ℕ → List ℕ → List Placed) → ℕ → List ℕ → Run × List ℕ → List Placed
with_word more place text p = placed place (word_lexeme (opens p.1) (written_at place p.0)) ∷ more (place + (byte_count text - byte_count p.1)) p.1

-- The lexemes of a text whose first byte has this place. At most n characters are looked at, so n is to be its length.
abbrev pub lexemes_from : ℕ → ℕ → List ℕ → List Placed
lexemes_from zero place cs = []
lexemes_from (suc n) place [] = []
lexemes_from (suc n) place (c ∷ cs) =
    if is_whitespace c then lexemes_from n (place + len_utf8 c) cs
    else (if begins_word (c ∷ cs) then with_word (λ at rest. lexemes_from n at rest) place (c ∷ cs) (word_from (suc n) no_run (c ∷ cs))
    else placed place (sign_lexeme c) ∷ lexemes_from n (place + len_utf8 c) cs)

abbrev pub query_lexemes : List ℕ → List Placed
query_lexemes text = lexemes_from (length text) 1 text

-- the lexemes without their places
abbrev pub bare : List Placed → List Lexeme
bare [] = []
bare (p ∷ ps) = p.lexeme ∷ bare ps

-- The place of the lexeme with this index, from 0 on, or that of the end.
abbrev pub place_of_index : ℕ → List Placed → ℕ → ℕ
place_of_index end [] i = end
place_of_index end (p ∷ ps) zero = p.place
place_of_index end (p ∷ ps) (suc i) = place_of_index end ps i

-- How many parentheses are open behind the lexeme. A `)` too many closes nothing.
abbrev pub depth_after : ℕ → Lexeme → ℕ
depth_after n Open = n + 1
depth_after n Close = n - 1
depth_after n l = n

-- whether over 32 parentheses are open at some place, where n are open in front of these lexemes
abbrev pub too_deep : ℕ → List Placed → Bool
too_deep n [] = false
too_deep n (p ∷ ps) = nat_lt 32 (depth_after n p.lexeme) || too_deep (depth_after n p.lexeme) ps

-- over 4000 bytes, over 1024 lexemes, or over 32 open parentheses
abbrev pub too_large : List ℕ → Bool
too_large text = nat_lt 4000 (byte_count text) || (nat_lt 1024 (length (query_lexemes text)) || too_deep 0 (query_lexemes text))

-- computed examples: two braces are a brace within a braced text, which may stay open; a `)` too many closes nothing
brace_in_braces : braced (codes "a}}b}c") ≡ Some (codes "a}b", codes "c")
brace_in_braces = refl

left_open : braced (codes "a}}") ≡ None
left_open = refl

closes_nothing : depth_after 0 Close ≡ 0
closes_nothing = refl
