-- What a text is found to be: too large, a query, or no query, with the first bad place and its cause.
use Rattle.std.specs.Prelude.{ℕ, ◌≡◌, ◌+◌, ◌⊎◌, Bool, true, false, List, [], ◌∷◌, drop, refl}
use Rattle.q_parse.specs.declared.faults.Cause.{Cause}
use Rattle.q_parse.specs.declared.faults.Cause.TheVariants.{OutOfRange, NotInProfile, Syntax}
use Rattle.q_lex.specs.declared.lexemes.Lexeme.{Lexeme}
use Rattle.q_lex.specs.declared.lexemes.Lexeme.TheVariants.{Comma, Refused}
use Rattle.q_lex.specs.Words.{GrammarRules, strict}
use Rattle.q_tree.specs.Trees.{Tree}
use Rattle.q_parse.specs.Grammar.{IsQuery, IsFirstBad, GoesOn}
use Rattle.q_lex.specs.Lexing.{byte_count, query_lexemes, bare, place_of_index, too_large}

-- Three grammars with fewer limits: with any number of operands and operators; with the words of other products in sums too, of
-- which there may be any number; and with any plain word for a number.
abbrev pub any_count : GrammarRules
any_count = record { numbers = true; counts = false; scores = true }

abbrev pub any_score : GrammarRules
any_score = record { numbers = true; counts = false; scores = false }

abbrev pub any_number : GrammarRules
any_number = record { numbers = false; counts = true; scores = true }

-- whether the first lexeme is one that this product doesn't have, or a comma
abbrev pub is_refused : List Lexeme → Bool
is_refused (Refused ∷ ls) = true
is_refused (Comma ∷ ls) = true
is_refused ls = false

-- Why the lexeme at the place, which is the first bad one, is bad. The cause is the first of these that fits: it is one operand or
-- operator too many (OutOfRange); a lexeme that this product doesn't have, or a comma (NotInProfile); a word of other products in a
-- sum (NotInProfile); a number in no form or out of its range (OutOfRange); anything else (Syntax). That it would be right without a
-- limit is said so: the grammar without this limit goes on there.
abbrev pub IsCause : List Lexeme → ℕ → Cause → Type 0
IsCause ls place OutOfRange = GoesOn any_count ls place ⊎ ((is_refused (drop place ls) ≡ false) × (GoesOn any_score ls place → ⊥) × GoesOn any_number ls place)
IsCause ls place NotInProfile = (GoesOn any_count ls place → ⊥) × ((is_refused (drop place ls) ≡ true) ⊎ GoesOn any_score ls place)
IsCause ls place Syntax = (GoesOn any_count ls place → ⊥) × (is_refused (drop place ls) ≡ false) × (GoesOn any_score ls place → ⊥) × (GoesOn any_number ls place → ⊥)

-- what a text is found to be
pub data Verdict : Type 0 where
  TooLarge : Verdict
  Found : Tree → Verdict
  Fault : Cause → ℕ → Verdict

-- What each verdict says of the text. A text that isn't too large is a query with this tree; or its first bad lexeme, or else its
-- end, is bad for this cause, and stands at this place. The place of the end is behind the last byte.
abbrev pub IsVerdict : List ℕ → Verdict → Type 0
IsVerdict text TooLarge = too_large text ≡ true
IsVerdict text (Found t) = (too_large text ≡ false) × IsQuery strict (bare (query_lexemes text)) t
IsVerdict text (Fault why place) =
    (too_large text ≡ false)
    × ((i : ℕ) × IsFirstBad (bare (query_lexemes text)) i × IsCause (bare (query_lexemes text)) i why × (place_of_index (byte_count text + 1) (query_lexemes text) i ≡ place))

-- computed examples: a comma is refused as such, and the end isn't
comma_is_refused : is_refused (Comma ∷ []) ≡ true
comma_is_refused = refl

end_is_not_refused : is_refused [] ≡ false
end_is_not_refused = refl
