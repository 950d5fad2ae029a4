-- What a text is found to be: a structured query, or none, with the first bad place.
use Rattle.std.specs.Prelude.{ℕ, ◌≡◌, ◌+◌, Bool, true, false, List, [], ◌∷◌, Option, Some, None, is_some, codes, pos, negsuc, refl}
use lib.Utf8.{encode}
use Rattle.q_lex.specs.Lexing.{byte_count}
use Rattle.st_parse.specs.declared.lexemes.Lexeme.{Lexeme}
use Rattle.st_parse.specs.declared.statements.Whole.TheVariants.{Fits}
use Rattle.st_parse.specs.declared.statements.Operand.TheVariants.{Text as TextValue, Number as NumberValue}
use Rattle.st_parse.specs.declared.statements.Compare.TheVariants.{Equal, Less}
use Rattle.st_parse.specs.declared.statements.Cond.TheVariants.{Compare, Between, OneOf}
use Rattle.cat_where.specs.declared.lexing.Placed.{Placed}
use Rattle.cat_where.specs.declared.stages.Where.{Where}
use Rattle.cat_where.specs.declared.stages.State.{State}
use Rattle.cat_where.specs.Grammar.{GoesOn, IsFirstBad, IsStructured, order_by}
use Rattle.cat_where.specs.Lexing.{bare, end_of, lexed, place_of_index}
use Rattle.cat_where.specs.Machine.{finish, start, step}

pub data Verdict : Type 0 where
  Found : Where → Verdict
  OutOfRange : ℕ → Verdict
  Syntax : ℕ → Verdict

-- why the lexeme is bad: as a number alone, which would be right there without the limits of numbers, or not
abbrev pub IsCause : Bool → List Lexeme → ℕ → Type 0
IsCause true ls i = GoesOn false ls i
IsCause false ls i = GoesOn false ls i → ⊥

-- The first bad lexeme of the text, or else its end, stands at this place, and this is the cause.
pub record IsBadAt (text : List ℕ) (out_of_range : Bool) (place : ℕ) : Type 0 where
  pub index : ℕ
  pub bad : IsFirstBad (bare (lexed text).lexemes) (lexed text).broken index
  pub cause : IsCause out_of_range (bare (lexed text).lexemes) index
  pub stands : place_of_index (end_of text (lexed text).broken) (lexed text).lexemes index ≡ place

-- What each verdict says of the text. It is a structured query, which asks for this; or its first bad lexeme, or else its end, stands at this place, and
-- is a number that would be right there without the limits of numbers (OutOfRange), or not (Syntax).
abbrev pub IsVerdict : List ℕ → Verdict → Type 0
IsVerdict text (Found w) = ((lexed text).broken ≡ None) × IsStructured true (bare (lexed text).lexemes) w
IsVerdict text (OutOfRange place) = IsBadAt text true place
IsVerdict text (Syntax place) = IsBadAt text false place

-- ---- the same, computed

abbrev pub ending : ℕ → Option ℕ → Option Where → Verdict
ending end (Some place) found = Syntax place
ending end None None = Syntax end
ending end None (Some w) = Found w

abbrev pub fault_at : Bool → ℕ → Verdict
fault_at true place = OutOfRange place
fault_at false place = Syntax place

abbrev pub goes_on : (State → Verdict) → Verdict → Option State → Verdict
goes_on more fault None = fault
goes_on more fault (Some next) = more next

-- Of what is left, where the reader is in this state. The end of the text has the place `end`, and `broken` is where no lexeme begins.
abbrev pub verdict_from : ℕ → Option ℕ → State → List Placed → Verdict
verdict_from end broken s [] = ending end broken (finish s)
verdict_from end broken s (p ∷ ps) = goes_on (λ next. verdict_from end broken next ps) (fault_at (is_some (step false s p.lexeme)) p.place) (step true s p.lexeme)

abbrev pub verdict : List ℕ → Verdict
verdict text = verdict_from (byte_count text + 1) (lexed text).broken start (lexed text).lexemes

-- ---- computed examples

empty_text : verdict (codes " -- nothing") ≡ Found (record { conds = []; orders = [] })
empty_text = refl

two_conditions : verdict (codes "price < 5 AND shop IN ('a', -1) order by price desc, shop")
    ≡ Found (record {
      conds = Compare (codes "price") Less (NumberValue (Fits (pos 5))) ∷ OneOf (codes "shop") (TextValue (codes "a") ∷ NumberValue (Fits (negsuc 0)) ∷ []) ∷ [];
      orders = order_by (codes "price") true ∷ order_by (codes "shop") false ∷ [];
    })
unfolding encode
two_conditions = refl

and_of_between : verdict (codes "a BETWEEN 1 AND 2 AND b = 3")
    ≡ Found (record {
      conds = Between (codes "a") (NumberValue (Fits (pos 1))) (NumberValue (Fits (pos 2))) ∷ Compare (codes "b") Equal (NumberValue (Fits (pos 3))) ∷ [];
      orders = [];
    })
and_of_between = refl

order_alone : verdict (codes "ORDER BY a ASC") ≡ Found (record { conds = []; orders = order_by (codes "a") false ∷ [] })
order_alone = refl

ends_too_soon : verdict (codes "a = ") ≡ Syntax 5
ends_too_soon = refl

two_commas : verdict (codes "ORDER BY a,,b") ≡ Syntax 12
two_commas = refl

no_lexeme : verdict (codes "a = 'open") ≡ Syntax 5
no_lexeme = refl

bad_before_no_lexeme : verdict (codes "a a %") ≡ Syntax 3
bad_before_no_lexeme = refl

number_too_great : verdict (codes "a = 9223372036854775808") ≡ OutOfRange 5
number_too_great = refl

least_number : verdict (codes "a = -9223372036854775808") ≡ Found (record { conds = Compare (codes "a") Equal (NumberValue (Fits (negsuc 9223372036854775807))) ∷ []; orders = [] })
least_number = refl

number_too_small : verdict (codes "a = - 9223372036854775809") ≡ OutOfRange 7
number_too_small = refl

no_number_there : verdict (codes "a 9223372036854775808") ≡ Syntax 3
no_number_there = refl
