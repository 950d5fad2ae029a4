-- How the lexemes of a query text are written. Nothing is said here of how a text is read: a text is cut into parts in one way alone, which the laws of this crate say.
use Rattle.std.specs.Prelude.{ℕ, ◌≡◌, ◌+◌, ◌==◌, ◌||◌, Bool, true, false, List, [], ◌∷◌, ◌++◌, Option, Some, None, codes, refl}
use Rattle.std.specs.Bool.{if◌then◌else◌}
use Rattle.std.specs.Char.{is_whitespace, encode_utf8}
use Rattle.std.specs.Str.{encode_utf8_all}
use lib.Utf8.{encode}
use Rattle.ct_base.specs.Characters.{is_first}
use Rattle.ct_base.specs.Told.{with_prefix}
use Rattle.q_tree.specs.declared.queries.WordBit.{WordBit}
use Rattle.q_tree.specs.declared.queries.WordBit.TheVariants.{Chars, One, Many}
use Rattle.q_lex.specs.declared.lexemes.Written.{Written}
use Rattle.q_lex.specs.declared.lexemes.Infix.TheVariants.{And}
use Rattle.q_lex.specs.declared.lexemes.Placed.{Placed}
use Rattle.q_lex.specs.declared.lexemes.Lexeme.TheVariants.{Operator, Open, Bad, Thes}
use Rattle.q_tree.specs.declared.queries.Relation.TheVariants.{Syn}
use Rattle.q_lex.specs.Lexing.{is_sign_char, is_plain_char, sign_lexeme, word_lexeme, placed, byte_count}

-- A piece of a word as it is written: a plain character, a `\` with any character, or a braced text, by the characters that it stands for.
pub data WordPiece : Type 0 where
  Plain : ℕ → WordPiece
  Escaped : ℕ → WordPiece
  Braced : List ℕ → WordPiece

-- each `}` written twice
abbrev pub doubled : List ℕ → List ℕ
doubled [] = []
doubled (c ∷ cs) = if c == 125 then 125 ∷ 125 ∷ doubled cs else c ∷ doubled cs

abbrev pub piece_spelling : WordPiece → List ℕ
piece_spelling (Plain c) = c ∷ []
piece_spelling (Escaped c) = 92 ∷ c ∷ []
piece_spelling (Braced cs) = 123 ∷ (doubled cs ++ 125 ∷ [])

-- This is a piece where this rest follows it. A braced text ends with a `}` that no other follows, since two are one that belongs to the text.
abbrev pub IsWordPiece : WordPiece → List ℕ → Type 0
IsWordPiece (Plain c) rest = is_plain_char c ≡ true
IsWordPiece (Escaped c) rest = Unit {0}
IsWordPiece (Braced cs) rest = is_first 125 rest ≡ false

-- some piece stands in front of the text
pub record BeginsPiece (text : List ℕ) : Type 0 where
  pub piece : WordPiece
  pub rest : List ℕ
  pub is_piece : IsWordPiece piece rest
  pub text_is : text ≡ piece_spelling piece ++ rest

-- pieces one after the other
abbrev pub pieces_spelling : List WordPiece → List ℕ
pieces_spelling [] = []
pieces_spelling (p ∷ ps) = piece_spelling p ++ pieces_spelling ps

abbrev pub ArePieces : List WordPiece → List ℕ → Type 0
ArePieces [] rest = Unit {0}
ArePieces (p ∷ ps) rest = IsWordPiece p (pieces_spelling ps ++ rest) × ArePieces ps rest

-- A part of a text: a character of white space, a sign, a word of one or more pieces, or a character that is a bad lexeme.
pub data TextPart : Type 0 where
  Blank : ℕ → TextPart
  Sign : ℕ → TextPart
  WordPart : WordPiece → List WordPiece → TextPart
  BadPart : ℕ → TextPart

abbrev pub part_spelling : TextPart → List ℕ
part_spelling (Blank c) = c ∷ []
part_spelling (Sign c) = c ∷ []
part_spelling (WordPart p ps) = pieces_spelling (p ∷ ps)
part_spelling (BadPart c) = c ∷ []

-- one of  { } \
abbrev pub is_mark_char : ℕ → Bool
is_mark_char c = (c == 123) || (c == 125) || (c == 92)

-- This is a part where this rest follows it. A word is as long as can be: no piece follows its last one. Of `{`, `}` and `\` a bad lexeme
-- is each that begins no piece: a `{` that isn't closed, a `}` by itself, and a `\` at the end.
abbrev pub IsTextPart : TextPart → List ℕ → Type 0
IsTextPart (Blank c) rest = is_whitespace c ≡ true
IsTextPart (Sign c) rest = is_sign_char c ≡ true
IsTextPart (WordPart p ps) rest = ArePieces (p ∷ ps) rest × (BeginsPiece rest → ⊥)
IsTextPart (BadPart c) rest = (is_mark_char c ≡ true) × (BeginsPiece (c ∷ rest) → ⊥)

-- parts one after the other, up to the end of the text
abbrev pub parts_spelling : List TextPart → List ℕ
parts_spelling [] = []
parts_spelling (p ∷ ps) = part_spelling p ++ parts_spelling ps

abbrev pub AreParts : List TextPart → Type 0
AreParts [] = Unit {0}
AreParts (p ∷ ps) = IsTextPart p (parts_spelling ps) × AreParts ps

-- the bits with these bytes in front: they are one bit with the bytes that the bits begin with
abbrev pub with_bytes : List ℕ → List WordBit → List WordBit
with_bytes [] bits = bits
with_bytes (b ∷ bs) [] = Chars (b ∷ bs) ∷ []
with_bytes (b ∷ bs) (Chars more ∷ bits) = Chars (b ∷ bs ++ more) ∷ bits
with_bytes (b ∷ bs) (bit ∷ bits) = Chars (b ∷ bs) ∷ bit ∷ bits

-- What pieces stand for: a plain `_` is any one character, a plain `%` any characters, and all others stand for themselves, in UTF-8.
abbrev pub bits_of : List WordPiece → List WordBit
bits_of [] = []
bits_of (Plain c ∷ ps) = if c == 95 then One ∷ bits_of ps else (if c == 37 then Many ∷ bits_of ps else with_bytes (encode_utf8 c) (bits_of ps))
bits_of (Escaped c ∷ ps) = with_bytes (encode_utf8 c) (bits_of ps)
bits_of (Braced cs ∷ ps) = with_bytes (encode_utf8_all cs) (bits_of ps)

-- the spelling of plain characters in UTF-8, where all pieces are plain characters
abbrev pub plain_spelling : List WordPiece → Option (List ℕ)
plain_spelling [] = Some []
plain_spelling (Plain c ∷ ps) = with_prefix (encode_utf8 c) (plain_spelling ps)
plain_spelling (Escaped c ∷ ps) = None
plain_spelling (Braced cs ∷ ps) = None

abbrev pub written_word : ℕ → List WordPiece → Written
written_word place ps = record { word = record { place = place; bits = bits_of ps }; plain = plain_spelling ps }

-- whether the next lexeme is `(`
abbrev pub next_opens : List TextPart → Bool
next_opens [] = false
next_opens (Blank c ∷ ps) = next_opens ps
next_opens (Sign c ∷ ps) = c == 40
next_opens (WordPart q qs ∷ ps) = false
next_opens (BadPart c ∷ ps) = false

-- the lexeme of a part that has this place and is followed by these parts: none, or one
abbrev pub part_lexeme : ℕ → TextPart → List TextPart → List Placed
part_lexeme place (Blank c) ps = []
part_lexeme place (Sign c) ps = placed place (sign_lexeme c) ∷ []
part_lexeme place (WordPart q qs) ps = placed place (word_lexeme (next_opens ps) (written_word place (q ∷ qs))) ∷ []
part_lexeme place (BadPart c) ps = placed place Bad ∷ []

-- the lexemes of parts, the first of which has this place; each has as many bytes as its spelling
abbrev pub parts_lexemes : ℕ → List TextPart → List Placed
parts_lexemes place [] = []
parts_lexemes place (p ∷ ps) = part_lexeme place p ps ++ parts_lexemes (place + byte_count (part_spelling p)) ps

-- The text is written in parts, and these are their lexemes. Places are counted in bytes from 1.
pub record IsWrittenAs (text : List ℕ) (lexemes : List Placed) : Type 0 where
  pub parts : List TextPart
  pub are_parts : AreParts parts
  pub text_is : text ≡ parts_spelling parts
  pub lexemes_are : lexemes ≡ parts_lexemes 1 parts

-- computed examples: the word `a%\_{b}}}` stands for `a`, any characters and `_b}`
spelt_in_pieces : pieces_spelling (Plain 97 ∷ Plain 37 ∷ Escaped 95 ∷ Braced (codes "b}") ∷ []) ≡ codes "a%\\_{b}}}"
spelt_in_pieces = refl

stands_for : bits_of (Plain 97 ∷ Plain 37 ∷ Escaped 95 ∷ Braced (codes "b}") ∷ []) ≡ Chars (codes "a") ∷ Many ∷ Chars (codes "_b}") ∷ []
unfolding encode
stands_for = refl

not_plain : plain_spelling (Plain 97 ∷ Escaped 95 ∷ []) ≡ None
unfolding encode
not_plain = refl

-- ` syn (&}` has a blank, a word that is a function since a `(` follows, and three signs or bad lexemes
spelt_in_parts : parts_spelling (Blank 32 ∷ WordPart (Plain 115) (Plain 121 ∷ Plain 110 ∷ []) ∷ Blank 32 ∷ Sign 40 ∷ Sign 38 ∷ BadPart 125 ∷ []) ≡ codes " syn (&}"
spelt_in_parts = refl

lexemes_with_places : parts_lexemes 1 (Blank 32 ∷ WordPart (Plain 115) (Plain 121 ∷ Plain 110 ∷ []) ∷ Blank 32 ∷ Sign 40 ∷ Sign 38 ∷ BadPart 125 ∷ [])
    ≡ placed 2 (Thes Syn) ∷ placed 6 Open ∷ placed 7 (Operator And) ∷ placed 8 Bad ∷ []
unfolding encode
lexemes_with_places = refl
