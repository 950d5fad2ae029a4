-- What the tokens of a text are. Each place has its role by itself; a text is cut between two neighbours by their roles.
use Rattle.std.specs.Prelude.{ℕ, ◌≡◌, ◌+◌, ◌<◌, ◌≤◌, ◌==◌, Bool, true, false, ◌||◌, ◌&&◌, List, [], ◌∷◌, ◌++◌, map, Option, Some, None, codes, refl}
use Rattle.std.specs.Bool.{if◌then◌else◌}
use Rattle.std.specs.Char.{is_whitespace, len_utf8}
use lib.Utf8.{encode}
use Rattle.ct_base.specs.Characters.{first}
use Rattle.ucd_category.proofs.Computing.{ucd_category}
use Rattle.caseless.proofs.Computing.{caseless}
use Rattle.tx_chars.specs.Keys.{is_word, is_digit, key_of, key_text}
use Rattle.tx_lexer.specs.CharSets.{has}
use Rattle.tx_lexer.specs.declared.options.LexerOptions.{LexerOptions}
use Rattle.tx_lexer.specs.declared.roles.Role.{Role}
use Rattle.tx_lexer.specs.declared.roles.Role.TheVariants.{Out, Core, Number, Skip, Start, End}
use Rattle.tx_lexer.specs.declared.tokens.Token.{Token}

-- How a lexer reads: the role of a character between its neighbours, the key of a token's characters, and the characters that close a sentence.
pub record Rules : Type 0 where
  pub role : Option ℕ → ℕ → Option ℕ → Role
  pub key : List ℕ → List ℕ
  pub closes : ℕ → Bool

-- a place of a text: its character and role, the place of its first byte, and the characters after it
pub record Place : Type 0 where
  pub char : ℕ
  pub role : Role
  pub byte : ℕ
  pub after : List ℕ

-- the places of the characters, which stand behind `before` and from `byte` on
abbrev pub places : Rules → Option ℕ → ℕ → List ℕ → List Place
places r before byte [] = []
places r before byte (c ∷ cs) = record { char = c; role = r.role before c (first cs); byte = byte; after = cs } ∷ places r (Some c) (byte + len_utf8 c) cs

-- whether the text is cut behind a place of this role, before one, and between two neighbours
abbrev pub is_cut_after : Role → Bool
is_cut_after Out = true
is_cut_after End = true
is_cut_after role = false

abbrev pub is_cut_before : Role → Bool
is_cut_before Out = true
is_cut_before Start = true
is_cut_before role = false

abbrev pub is_cut : Role → Role → Bool
is_cut role next = is_cut_after role || is_cut_before next

-- the places at the beginning that nothing cuts from a place of this role before them
abbrev pub uncut : Role → List Place → List Place
uncut role [] = []
uncut role (p ∷ ps) = if is_cut role p.role then [] else p ∷ uncut p.role ps

-- the characters of a run without the skipped ones
abbrev pub own : Role → ℕ → List ℕ
own Skip c = []
own role c = c ∷ []

abbrev pub run_text : List Place → List ℕ
run_text [] = []
run_text (p ∷ ps) = own p.role p.char ++ run_text ps

-- where a run ends, and the characters behind it
abbrev pub stop_of : ℕ → List Place → ℕ
stop_of byte [] = byte
stop_of byte (p ∷ ps) = stop_of (p.byte + len_utf8 p.char) ps

abbrev pub after_of : List ℕ → List Place → List ℕ
after_of cs [] = cs
after_of cs (p ∷ ps) = after_of p.after ps

-- white space or the end
abbrev pub is_blank : List ℕ → Bool
is_blank [] = true
is_blank (c ∷ cs) = is_whitespace c

-- a newline, and then white space
abbrev pub is_blank_line : List ℕ → Bool
is_blank_line (c ∷ d ∷ cs) = (c == 10) && is_whitespace d
is_blank_line cs = false

-- A token ends a sentence where a closing character stands behind it, and then white space or the end.
abbrev pub ends_sentence : Rules → List ℕ → Bool
ends_sentence r [] = false
ends_sentence r (c ∷ cs) = r.closes c && is_blank cs

-- It ends a paragraph where a closing character, a newline and white space stand behind it.
abbrev pub ends_paragraph : Rules → List ℕ → Bool
ends_paragraph r [] = false
ends_paragraph r (c ∷ cs) = r.closes c && is_blank_line cs

-- the token with this key, which is none where the key is empty
abbrev pub keyed : Rules → List ℕ → ℕ → ℕ → List ℕ → List Token
keyed r [] start stop after = []
keyed r (b ∷ bs) start stop after = record { key = b ∷ bs; start = start; end = stop; ends_sentence = ends_sentence r after; ends_paragraph = ends_paragraph r after } ∷ []

-- the token that a run is, which is none where the run is out
abbrev pub token : Rules → Role → List ℕ → ℕ → ℕ → List ℕ → List Token
token r Out text start stop after = []
token r role text start stop after = keyed r (r.key text) start stop after

-- One token for each place that is cut from the place before it: the run of places from there up to the next cut.
abbrev pub tokens_after : Rules → Role → List Place → List Token
tokens_after r role [] = []
tokens_after r role (p ∷ ps) =
    (if is_cut role p.role then (let run = p ∷ uncut p.role ps in token r p.role (run_text run) p.byte (stop_of 0 run) (after_of [] run)) else []) ++ tokens_after r p.role ps

-- the tokens of the characters
abbrev pub tokens : Rules → List ℕ → List Token
tokens r text = tokens_after r Out (places r None 0 text)

-- ---- the rules that the options of a lexer say

-- a character of words, or one of the printjoins
abbrev pub is_core : LexerOptions → ℕ → Bool
is_core o c = is_word c || has o.printjoins c

-- whether there is a character, and of words
abbrev pub is_core_at : LexerOptions → Option ℕ → Bool
is_core_at o None = false
is_core_at o (Some c) = is_core o c

-- whether there is a character, and a decimal digit
abbrev pub is_digit_at : Option ℕ → Bool
is_digit_at None = false
is_digit_at (Some c) = is_digit c

-- whether it is this character
abbrev pub is_this : Option ℕ → ℕ → Bool
is_this None c = false
is_this (Some d) c = d == c

-- the role of a character between its neighbours: the first that fits
abbrev pub role_at : LexerOptions → Option ℕ → ℕ → Option ℕ → Role
role_at o before c after =
    if is_core o c then Core
    else (if has o.skipjoins c && (is_core_at o before && is_core_at o after) then Skip
    else (if (is_this o.numjoin c || is_this o.numgroup c) && (is_digit_at before && is_digit_at after) then Number
    else (if has o.startjoins c && is_core_at o after then Start
    else (if has o.endjoins c && is_core_at o before then End
    else Out))))

abbrev pub rules : LexerOptions → Rules
rules o = record { role = role_at o; key = key_of o.base_letter o.mixed_case; closes = has o.punctuations }

-- The default options: `.` and `,` between two digits join them; `.`, `?` and `!` close a sentence.
abbrev pub default_options : LexerOptions
default_options = record {
  printjoins = [];
  skipjoins = [];
  startjoins = [];
  endjoins = [];
  punctuations = 33 ∷ 46 ∷ 63 ∷ [];
  numjoin = Some 46;
  numgroup = Some 44;
  base_letter = false;
  mixed_case = false;
}

abbrev pub default : Rules
default = rules default_options

-- The tokens stand in the order of the text and apart: each is not empty, and starts at `least` or behind the one before it; all end at `most` or before.
abbrev pub AreInOrder : ℕ → ℕ → List Token → Type 0
AreInOrder least most [] = Unit {0}
AreInOrder least most (t ∷ ts) = (least ≤ t.start) × (t.start < t.end) × (t.end ≤ most) × AreInOrder t.end most ts

-- computed examples
web_site : tokens default (codes "Web-site, 1,000.50! Ok?")
    ≡ record { key = codes "web"; start = 0; end = 3; ends_sentence = false; ends_paragraph = false }
    ∷ record { key = codes "site"; start = 4; end = 8; ends_sentence = false; ends_paragraph = false }
    ∷ record { key = codes "1,000.50"; start = 10; end = 18; ends_sentence = true; ends_paragraph = false }
    ∷ record { key = codes "ok"; start = 20; end = 22; ends_sentence = true; ends_paragraph = false } ∷ []
unfolding encode caseless ucd_category key_text
web_site = refl

-- a mark that is followed by a letter closes nothing; a newline and a blank behind the mark end a paragraph; a number keeps no mark at its end
marks : map {B = ℕ × Bool × Bool} (λ (t : Token). (t.start, t.ends_sentence, t.ends_paragraph)) (tokens default (codes "a.b c.\n d. 1,"))
    ≡ (0, false, false) ∷ (2, false, false) ∷ (4, true, true) ∷ (8, true, false) ∷ (11, false, false) ∷ []
unfolding encode caseless ucd_category key_text
marks = refl

-- `É` takes two bytes; `€` is no character of words
abbrev spans : LexerOptions → List ℕ → List (List ℕ × ℕ × ℕ)
spans o text = map {B = List ℕ × ℕ × ℕ} (λ (t : Token). (t.key, t.start, t.end)) (tokens (rules o) text)

cafes : spans default_options (codes "CAFÉ€9") ≡ (codes "caf" ++ 0xC3 ∷ 0xA9 ∷ [], 0, 5) ∷ (codes "9", 8, 9) ∷ []
unfolding encode caseless ucd_category key_text
cafes = refl

-- `-` inside a word without being part of its key
website : spans (record default_options { skipjoins = codes "-" }) (codes "Web-site, 1,000.50!") ≡ (codes "website", 0, 8) ∷ (codes "1,000.50", 10, 18) ∷ []
unfolding encode caseless ucd_category key_text
website = refl

-- `#` before a word begins a token, and `+` behind one ends it; `_` stands in words
framed : spans (record default_options { startjoins = codes "#"; endjoins = codes "+"; printjoins = codes "_"; mixed_case = true }) (codes "a#B_+c # +")
    ≡ (codes "a", 0, 1) ∷ (codes "#B_+", 1, 5) ∷ (codes "c", 5, 6) ∷ []
unfolding encode caseless ucd_category key_text
framed = refl

-- a mark by itself is no token where keys have the base letters alone
marks_alone : spans (record default_options { base_letter = true }) (0x301 ∷ 0x20 ∷ 0xE9 ∷ []) ≡ (codes "e", 3, 5) ∷ []
unfolding encode caseless ucd_category key_text
marks_alone = refl
