-- The lexemes of a structured query, which are those of statements. Texts are lists of characters here; places are counted in bytes from 1.
use Rattle.std.specs.Prelude.{ℕ, zero, suc, ◌≡◌, ◌+◌, ◌-◌, List, [], ◌∷◌, length, Option, Some, None, codes, refl}
use Rattle.std.specs.Bool.{if◌then◌else◌}
use Rattle.std.specs.Char.{is_whitespace}
use lib.Utf8.{encode}
use Rattle.q_lex.specs.Lexing.{byte_count}
use Rattle.st_parse.specs.declared.lexemes.Keyword.TheVariants.{Asc}
use Rattle.st_parse.specs.declared.lexemes.Symbol.TheVariants.{Minus, Equal}
use Rattle.st_parse.specs.declared.lexemes.Lexeme.{Lexeme}
use Rattle.st_parse.specs.declared.lexemes.Lexeme.TheVariants.{Word, Name, Text, Number, Sign}
use Rattle.st_parse.specs.Lexemes.{after_run, begins_comment, is_in_line, lexeme_at}
use Rattle.cat_where.specs.declared.lexing.Placed.{Placed}
use Rattle.cat_where.specs.declared.lexing.Lexed.{Lexed}

-- the place of the rest in the text
abbrev pub place_in : List ℕ → List ℕ → ℕ
place_in text rest = (byte_count text - byte_count rest) + 1

abbrev pub placed : ℕ → Lexeme → Placed
placed place lexeme = record { place = place; lexeme = lexeme }

abbrev pub nothing_left : Lexed
nothing_left = record { lexemes = []; broken = None }

-- a lexeme and those after it
abbrev pub put_first : Placed → Lexed → Lexed
put_first p l = record { lexemes = p ∷ l.lexemes; broken = l.broken }

-- the lexeme at this place and those after it, or where none begins here, nothing more
abbrev pub with_lexeme : (List ℕ → Lexed) → ℕ → Option (Lexeme × List ℕ) → Lexed
with_lexeme more place None = record { lexemes = []; broken = Some place }
with_lexeme more place (Some l) = put_first (placed place l.0) (more l.1)

-- The lexemes of the rest of the text. At most n characters are looked at, so n is to be the length of the rest.
abbrev pub lexed_in : List ℕ → ℕ → List ℕ → Lexed
lexed_in text zero cs = nothing_left
lexed_in text (suc n) [] = nothing_left
lexed_in text (suc n) (c ∷ cs) =
    if is_whitespace c then lexed_in text n cs
    else (if begins_comment c cs then lexed_in text n (after_run is_in_line cs)
    else with_lexeme (λ rest. lexed_in text n rest) (place_in text (c ∷ cs)) (lexeme_at (c ∷ cs)))

-- The lexemes of a text, up to the first place at which none begins.
abbrev pub lexed : List ℕ → Lexed
lexed text = lexed_in text (length text) text

-- the lexemes without their places
abbrev pub bare : List Placed → List Lexeme
bare [] = []
bare (p ∷ ps) = p.lexeme ∷ bare ps

-- the lexemes of a text as statements have them, which has none where something in it is no lexeme
abbrev pub whole_from : List Lexeme → Option ℕ → Option (List Lexeme)
whole_from ls None = Some ls
whole_from ls (Some place) = None

abbrev pub whole_lexemes : Lexed → Option (List Lexeme)
whole_lexemes l = whole_from (bare l.lexemes) l.broken

-- the end, or the place before it at which no lexeme begins
abbrev pub end_at : ℕ → Option ℕ → ℕ
end_at end None = end
end_at end (Some place) = place

abbrev pub end_of : List ℕ → Option ℕ → ℕ
end_of text broken = end_at (byte_count text + 1) broken

-- the place of the lexeme with this index, from 0 on, or that of the end
abbrev pub place_of_index : ℕ → List Placed → ℕ → ℕ
place_of_index end [] i = end
place_of_index end (p ∷ ps) zero = p.place
place_of_index end (p ∷ ps) (suc i) = place_of_index end ps i

-- computed examples
compared_with_a_text : lexed (codes "a = 'é' asc") ≡ record { lexemes = placed 1 (Name (codes "a")) ∷ placed 3 (Sign Equal) ∷ placed 5 (Text (195 ∷ 169 ∷ [])) ∷ placed 10 (Word Asc) ∷ []; broken = None }
unfolding encode
compared_with_a_text = refl

after_a_comment : lexed (codes "--a\n-2") ≡ record { lexemes = placed 5 (Sign Minus) ∷ placed 6 (Number (codes "2")) ∷ []; broken = None }
after_a_comment = refl

broken_off : lexed (codes "a % b") ≡ record { lexemes = placed 1 (Name (codes "a")) ∷ []; broken = Some 3 }
broken_off = refl
