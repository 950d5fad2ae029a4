-- Between which keys the rows lie that meet conditions.
use Rattle.std.specs.Prelude.{ℕ, ℤ, pos, ◌≡◌, ◌↔◌, ◌≤ℤ◌, ◌||◌, not, Bool, true, false, List, [], ◌∷◌, codes, refl}
use Rattle.std.specs.List.{list_all}
use Rattle.std.proofs.Common.{arith}
use Rattle.std.proofs.lemmas.Int.{ints}
use Rattle.ct_base.specs.declared.lists.Value.{Value}
use Rattle.ct_base.specs.declared.lists.Value.TheVariants.{Number as NumberValue, Text as TextValue}
use Rattle.ct_entry.specs.Keys.{IsRow, same_list}
use Rattle.st_parse.specs.declared.statements.Operand.{Operand}
use Rattle.st_parse.specs.declared.statements.Operand.TheVariants.{Number}
use Rattle.st_parse.specs.declared.statements.Whole.TheVariants.{Fits}
use Rattle.st_parse.specs.declared.statements.Compare.{Compare}
use Rattle.st_parse.specs.declared.statements.Compare.TheVariants.{Equal, Less}
use Rattle.st_parse.specs.declared.statements.Cond.{Cond}
use Rattle.st_parse.specs.declared.statements.Cond.TheVariants.{Compare as Compared, Between, OneOf}
use Rattle.tb_table.specs.declared.columns.Column.{Column}
use Rattle.db_cond.specs.Conditions.{compares, holds}
use Rattle.db_rows.specs.Sources.{is_key_source, source_of, source_value, of_columns}
use Rattle.db_rows.specs.Checking.{cond_column}
use Rattle.db_rows.specs.Meeting.{holds_of}
use Rattle.db_rows.specs.declared.bounds.KeyBounds.{KeyBounds}

-- The key lies from the one bound to the other, both included.
pub record IsWithinBounds (b : KeyBounds) (r : ℤ) : Type 0 where
  pub low : b.least.0 ≤ℤ r
  pub high : r ≤ℤ b.greatest.0

-- the keys that lie within are those of which the comparison holds
abbrev pub AreBoundsOf : Compare → Operand → KeyBounds → Type 0
AreBoundsOf op operand b = (r : ℤ) → IsRow r → (compares op (NumberValue r) operand ≡ true) ↔ IsWithinBounds b r

-- each key of which the condition holds lies within
abbrev pub BoundKeys : Cond → KeyBounds → Type 0
BoundKeys cond b = (r : ℤ) → IsRow r → holds cond (NumberValue r) ≡ true → IsWithinBounds b r

-- whether a condition holds of a row, by where the value of its column comes from
abbrev pub holds_by : List Column → Cond → ℤ → List Value → Bool
holds_by columns cond r vs = holds_of cond (source_value r vs (source_of (cond_column cond) columns))

-- whether a row meets all conditions, each by where the value of its column comes from
abbrev pub meets_by : List Column → List Cond → ℤ → List Value → Bool
meets_by columns conds r vs = list_all (λ cond. holds_by columns cond r vs) conds

-- each row that meets the conditions has a key that lies within
abbrev pub BoundRows : List Column → List Cond → KeyBounds → Type 0
BoundRows columns conds b = (r : ℤ) (vs : List Value) → IsRow r → meets_by columns conds r vs ≡ true → IsWithinBounds b r

-- a condition by one comparison or two, and not by a list
abbrev pub is_range : Cond → Bool
is_range (Compared column op operand) = true
is_range (Between column low high) = true
is_range (OneOf column operands) = false

-- the condition, unless it is a list, holds of each key within the bounds
abbrev pub HoldsWithin : Cond → KeyBounds → Type 0
HoldsWithin cond b = is_range cond ≡ true → (r : ℤ) → IsRow r → IsWithinBounds b r → holds cond (NumberValue r) ≡ true

-- whether the condition holds of the key, if it is on the key and no list
abbrev pub allows_key : List Column → ℤ → Cond → Bool
allows_key columns r cond = not (is_key_source (source_of (cond_column cond) columns)) || (not (is_range cond) || holds cond (NumberValue r))

-- so does each such condition
abbrev pub AreTight : List Column → List Cond → KeyBounds → Type 0
AreTight columns conds b = (r : ℤ) → IsRow r → IsWithinBounds b r → list_all (allows_key columns r) conds ≡ true

-- ---- the numbers in a column

-- whether the condition holds of the number, if it is on the column with this name
abbrev pub allows_number : List ℕ → ℤ → Cond → Bool
allows_number name n cond = not (same_list (cond_column cond) name) || holds cond (NumberValue n)

-- each number of which all conditions on the column hold lies within
abbrev pub BoundNumbers : List ℕ → List Cond → KeyBounds → Type 0
BoundNumbers name conds b = (n : ℤ) → IsRow n → list_all (allows_number name n) conds ≡ true → IsWithinBounds b n

-- whether it holds of the number, if it is on the column and no list
abbrev pub allows_but_list : List ℕ → ℤ → Cond → Bool
allows_but_list name n cond = not (same_list (cond_column cond) name) || (not (is_range cond) || holds cond (NumberValue n))

-- of each number within the bounds each such condition holds
abbrev pub AreTightNumbers : List ℕ → List Cond → KeyBounds → Type 0
AreTightNumbers name conds b = (n : ℤ) → IsRow n → IsWithinBounds b n → list_all (allows_but_list name n) conds ≡ true

-- computed examples
abbrev from_to : ℤ → ℤ → KeyBounds
from_to least greatest = record { least = record { 0 = least }; greatest = record { 0 = greatest } }

at_an_end : IsWithinBounds (from_to (pos 3) (pos 7)) (pos 7)
at_an_end = record { low = omega (arith, ints); high = omega (arith, ints) }

nothing_within : (r : ℤ) → IsWithinBounds (from_to (pos 7) (pos 3)) r → ⊥
nothing_within r is = omega (arith, ints, is.low, is.high)

-- of a table with the columns id, a, n and b the row 7 of a text, 5 and a text
abbrev its_row : Compare → ℤ → Bool
its_row op n = meets_by of_columns (Compared (codes "n") op (Number (Fits n)) ∷ []) (pos 7) (TextValue (codes "x") ∷ NumberValue (pos 5) ∷ TextValue (codes "y") ∷ [])

-- where the key is to be 7, no other key lies within tight bounds; a condition on another column doesn't bound it
abbrev key_seven : Cond
key_seven = Compared (codes "id") Equal (Number (Fits (pos 7)))

only_seven : allows_key of_columns (pos 7) key_seven ≡ true
only_seven = refl

not_eight : allows_key of_columns (pos 8) key_seven ≡ false
not_eight = refl

any_by_a_number : allows_key of_columns (pos 8) (Compared (codes "n") Equal (Number (Fits (pos 7)))) ≡ true
any_by_a_number = refl

below_six : its_row Less (pos 6) ≡ true
below_six = refl

not_below_five : its_row Less (pos 5) ≡ false
not_below_five = refl

-- of the numbers in the column n
abbrev n_below_six : Cond
n_below_six = Compared (codes "n") Less (Number (Fits (pos 6)))

five_is_allowed : allows_number (codes "n") (pos 5) n_below_six ≡ true
five_is_allowed = refl

six_is_not : allows_number (codes "n") (pos 6) n_below_six ≡ false
six_is_not = refl

six_of_another_column : allows_number (codes "id") (pos 6) n_below_six ≡ true
six_of_another_column = refl

-- a list bounds them by its least and its greatest, between which are numbers that aren't in it
between_those_of_a_list : allows_but_list (codes "n") (pos 5) (OneOf (codes "n") (Number (Fits (pos 3)) ∷ Number (Fits (pos 7)) ∷ [])) ≡ true
between_those_of_a_list = refl
