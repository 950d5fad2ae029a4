-- What a text is found to be: too large, a query, or no query, with the first bad place.
use Rattle.std.specs.Prelude.{ℕ, zero, suc, ◌≡◌, ◌+◌, true, false, List, [], ◌∷◌, Option, Some, None, Result, Ok, Err, codes, refl}
use Rattle.std.specs.Bool.{if◌then◌else◌}
use lib.Utf8.{encode}
use Rattle.q_tree.specs.declared.queries.Query.{Query}
use Rattle.q_tree.specs.declared.queries.WordBit.TheVariants.{Chars, Many}
use Rattle.q_tree.specs.declared.queries.Op.TheVariants.{Or, And, Not}
use Rattle.q_tree.specs.Trees.{Tree, Both, tree_of}
use Rattle.cat_query.specs.declared.faults.CatFault.{CatFault}
use Rattle.cat_query.specs.declared.faults.CatFault.TheVariants.{Syntax, TooLarge as TooLargeText, Memory}
use Rattle.cat_query.specs.declared.lexemes.Placed.{Placed}
use Rattle.cat_query.specs.Grammar.{IsQuery, IsFirstBad, phrase_of}
use Rattle.q_lex.specs.Lexing.{byte_count}
use Rattle.cat_query.specs.Lexing.{bare, query_lexemes, too_large, word}
use Rattle.cat_query.specs.Machine.{State, start, step, finish}

-- the place of the lexeme with this index, from 0 on, or that of the end
abbrev pub place_of_index : ℕ → List Placed → ℕ → ℕ
place_of_index end [] i = end
place_of_index end (p ∷ ps) zero = p.place
place_of_index end (p ∷ ps) (suc i) = place_of_index end ps i

pub data Verdict : Type 0 where
  TooLarge : Verdict
  Found : Tree → Verdict
  Fault : ℕ → Verdict

-- What each verdict says of the text. A text that isn't too large is a query with this tree; or its first bad lexeme, or else its end, stands at this
-- place. The place of the end is after the last byte.
abbrev pub IsVerdict : List ℕ → Verdict → Type 0
IsVerdict text TooLarge = too_large text ≡ true
IsVerdict text (Found t) = (too_large text ≡ false) × IsQuery (bare (query_lexemes text)) t
IsVerdict text (Fault place) =
    (too_large text ≡ false) × ((i : ℕ) × IsFirstBad (bare (query_lexemes text)) i × (place_of_index (byte_count text + 1) (query_lexemes text) i ≡ place))

-- ---- the same, computed

abbrev pub ending : ℕ → Option Tree → Verdict
ending end None = Fault end
ending end (Some t) = Found t

abbrev pub goes_on : (State → Verdict) → ℕ → Option State → Verdict
goes_on more place None = Fault place
goes_on more place (Some next) = more next

-- of what is left, where the reader is in this state; the end of the text has the place `end`
abbrev pub verdict_from : ℕ → State → List Placed → Verdict
verdict_from end s [] = ending end (finish s)
verdict_from end s (p ∷ ps) = goes_on (λ next. verdict_from end next ps) p.place (step s p.lexeme)

abbrev pub verdict : List ℕ → Verdict
verdict text = if too_large text then TooLarge else verdict_from (byte_count text + 1) start (query_lexemes text)

-- the verdict that a result is; where memory ran out it is none
abbrev pub verdict_of : Result Query CatFault → Option Verdict
verdict_of (Ok q) = Some (Found (tree_of q))
verdict_of (Err (Syntax place)) = Some (Fault place)
verdict_of (Err TooLargeText) = Some TooLarge
verdict_of (Err Memory) = None

-- ---- computed examples

abbrev at : ℕ → List ℕ → Tree
at place chars = phrase_of (word place (Chars chars ∷ []))

red_without_blue : verdict (codes "red - blue | hat") ≡ Found (Both Or (Both Not (at 1 (codes "red")) (at 7 (codes "blue"))) (at 14 (codes "hat")))
unfolding encode
red_without_blue = refl

in_parentheses : verdict (codes "red (car|hat)") ≡ Found (Both And (at 1 (codes "red")) (Both Or (at 6 (codes "car")) (at 10 (codes "hat"))))
unfolding encode
in_parentheses = refl

a_wildcard : verdict (codes "h*t") ≡ Found (phrase_of (word 1 (Chars (codes "h") ∷ Many ∷ Chars (codes "t") ∷ [])))
unfolding encode
a_wildcard = refl

begins_with_a_star : verdict (codes "*ed") ≡ Fault 1
begins_with_a_star = refl

begins_with_a_minus : verdict (codes "- a") ≡ Fault 1
unfolding encode
begins_with_a_minus = refl

ends_too_soon : verdict (codes "a -") ≡ Fault 4
unfolding encode
ends_too_soon = refl

no_lexeme : verdict (codes " ") ≡ Fault 2
no_lexeme = refl

closes_too_much : verdict (codes "a) b") ≡ Fault 2
unfolding encode
closes_too_much = refl

closes_too_little : verdict (codes "(a") ≡ Fault 3
unfolding encode
closes_too_little = refl

empty_parentheses : verdict (codes "a ()") ≡ Fault 4
unfolding encode
empty_parentheses = refl
