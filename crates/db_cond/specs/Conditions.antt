-- Whether a condition of a statement holds of a value.
use Rattle.std.specs.Prelude.{◌≡◌, Bool, true, false, ◌&&◌, List, [], ◌∷◌, Option, Some, None, pos, negsuc, codes, refl}
use Rattle.std.specs.List.{list_any}
use Rattle.std.specs.Ordering.{nat_cmp, int_cmp, is_eq, is_lt, is_le, is_gt, is_ge, is_some_and}
use Rattle.std.specs.Cmp.Lexicographic.{slice_cmp}
use Rattle.std.specs.declared.cmp.Ordering.{Ordering}
use Rattle.ct_base.specs.declared.lists.Value.{Value}
use Rattle.ct_base.specs.declared.lists.Value.TheVariants.{Number as NumberValue, Text as TextValue}
use Rattle.st_parse.specs.declared.statements.Operand.{Operand}
use Rattle.st_parse.specs.declared.statements.Operand.TheVariants.{Number, Text}
use Rattle.st_parse.specs.declared.statements.Whole.TheVariants.{Fits, Beyond}
use Rattle.st_parse.specs.declared.statements.Compare.{Compare}
use Rattle.st_parse.specs.declared.statements.Compare.TheVariants.{Equal, Less, AtMost, Greater, AtLeast}
use Rattle.st_parse.specs.declared.statements.Cond.{Cond}
use Rattle.st_parse.specs.declared.statements.Cond.TheVariants.{Compare as Compared, Between, OneOf}

-- The order of a value and an operand: numbers by their size, texts by their bytes. There is none where the types differ, nor
-- where the number is outside 64 bits; a statement that compares so is refused.
abbrev pub order_of : Value → Operand → Option Ordering
order_of (NumberValue n) (Number (Fits k)) = Some (int_cmp n k)
order_of (NumberValue n) (Number Beyond) = None
order_of (NumberValue n) (Text text) = None
order_of (TextValue text) (Number n) = None
order_of (TextValue text) (Text other) = Some (slice_cmp nat_cmp text other)

-- whether a comparison holds where the value and the operand are in this order
abbrev pub allows : Compare → Ordering → Bool
allows Equal order = is_eq order
allows Less order = is_lt order
allows AtMost order = is_le order
allows Greater order = is_gt order
allows AtLeast order = is_ge order

-- whether the comparison holds of the value; where there is no order, none does
abbrev pub compares : Compare → Value → Operand → Bool
compares op value operand = is_some_and (allows op) (order_of value operand)

-- Whether the condition holds of the value: it compares so with the operand; it is from the one to the other, both included; or it is one of these.
abbrev pub holds : Cond → Value → Bool
holds (Compared column op operand) value = compares op value operand
holds (Between column low high) value = compares AtLeast value low && compares AtMost value high
holds (OneOf column operands) value = list_any (compares Equal value) operands

-- computed examples: each comparison below its operand, at it and above it
abbrev seven : Operand
seven = Number (Fits (pos 7))

abbrev against_seven : Compare → List Bool
against_seven op = compares op (NumberValue (pos 6)) seven ∷ compares op (NumberValue (pos 7)) seven ∷ compares op (NumberValue (pos 8)) seven ∷ []

equal : against_seven Equal ≡ false ∷ true ∷ false ∷ []
equal = refl

less : against_seven Less ≡ true ∷ false ∷ false ∷ []
less = refl

at_most : against_seven AtMost ≡ true ∷ true ∷ false ∷ []
at_most = refl

greater : against_seven Greater ≡ false ∷ false ∷ true ∷ []
greater = refl

at_least : against_seven AtLeast ≡ false ∷ true ∷ true ∷ []
at_least = refl

-- numbers are compared by their size and not by their digits; -10 is less than -9, which is less than 2
below_zero : compares Less (NumberValue (negsuc 9)) (Number (Fits (negsuc 8))) ≡ true
below_zero = refl

over_zero : compares Less (NumberValue (negsuc 8)) (Number (Fits (pos 2))) ≡ true
over_zero = refl

ten_over_nine : compares Greater (NumberValue (pos 10)) (Number (Fits (pos 9))) ≡ true
ten_over_nine = refl

-- a text is less than one that goes on after it, and texts are compared byte by byte: `B` is less than `a`, `é`, in two bytes, is greater than `z`, and `10` is less than `9`
prefix_first : compares Less (TextValue (codes "fox")) (Text (codes "foxes")) ≡ true
prefix_first = refl

empty_first : compares Less (TextValue []) (Text (codes "a")) ≡ true
empty_first = refl

capitals_first : compares Less (TextValue (codes "B")) (Text (codes "a")) ≡ true
capitals_first = refl

past_ascii : compares Greater (TextValue (0xC3 ∷ 0xA9 ∷ [])) (Text (codes "z")) ≡ true
past_ascii = refl

digits_as_text : compares Less (TextValue (codes "10")) (Text (codes "9")) ≡ true
digits_as_text = refl

the_same_text : compares Equal (TextValue (codes "fox")) (Text (codes "fox")) ≡ true
the_same_text = refl

other_case : compares Equal (TextValue (codes "fox")) (Text (codes "Fox")) ≡ false
other_case = refl

-- BETWEEN 3 AND 7 of 2, 3, 7 and 8; and BETWEEN 7 AND 3 of 7, 5 and 3
abbrev between : Operand → Operand → List Value → List Bool
between low high [] = []
between low high (v ∷ vs) = holds (Between (codes "price") low high) v ∷ between low high vs

both_ends : between (Number (Fits (pos 3))) seven (NumberValue (pos 2) ∷ NumberValue (pos 3) ∷ NumberValue (pos 7) ∷ NumberValue (pos 8) ∷ []) ≡ false ∷ true ∷ true ∷ false ∷ []
both_ends = refl

ends_exchanged : between seven (Number (Fits (pos 3))) (NumberValue (pos 7) ∷ NumberValue (pos 5) ∷ NumberValue (pos 3) ∷ []) ≡ false ∷ false ∷ false ∷ []
ends_exchanged = refl

-- BETWEEN 'b' AND 'c' of `b`, `bz`, `c` and `ca`
between_texts : between (Text (codes "b")) (Text (codes "c")) (TextValue (codes "b") ∷ TextValue (codes "bz") ∷ TextValue (codes "c") ∷ TextValue (codes "ca") ∷ []) ≡ true ∷ true ∷ true ∷ false ∷ []
between_texts = refl

-- IN (7, 9) of 9 and 8, and IN () of 7, which no statement spells
the_second : holds (OneOf (codes "price") (seven ∷ Number (Fits (pos 9)) ∷ [])) (NumberValue (pos 9)) ≡ true
the_second = refl

not_between : holds (OneOf (codes "price") (seven ∷ Number (Fits (pos 9)) ∷ [])) (NumberValue (pos 8)) ≡ false
not_between = refl

one_of_none : holds (OneOf (codes "price") []) (NumberValue (pos 7)) ≡ false
one_of_none = refl

-- no comparison of a number with a text, nor with a number outside 64 bits
not_a_text : compares AtLeast (NumberValue (pos 7)) (Text (codes "7")) ≡ false
not_a_text = refl

not_a_number : compares AtMost (TextValue (codes "7")) seven ≡ false
not_a_number = refl

not_beyond : compares Less (NumberValue (pos 7)) (Number Beyond) ≡ false
not_beyond = refl
