-- How many rows have each value.
use Rattle.std.specs.Prelude.{ℕ, ◌≡◌, ◌+◌, ◌++◌, ◌<◌, pos, Bool, List, [], ◌∷◌, map, codes, Some, None, refl}
use Rattle.std.specs.Bool.{if◌then◌else◌}
use Rattle.std.specs.Option.{option_to_list}
use Rattle.std.specs.declared.cmp.Ordering.TheVariants.{Less}
use Rattle.std.specs.List.{AllByRecursion}
use Rattle.std.specs.Ordering.{is_eq}
use denote.Ref.{Bor}
use Rattle.ct_base.specs.declared.lists.Value.{Value}
use Rattle.ct_base.specs.declared.lists.Value.TheVariants.{Number, Text}
use Rattle.rs_result.specs.declared.rows.Count.{Count}
use Rattle.rs_result.specs.Comparing.{Ranked, nth_value, value_cmp}
use Rattle.rs_result.specs.Sorting.{sorted_by}

-- the values with this index, from 0 on, that rows have, in the order of the rows
abbrev pub column_values : ℕ → List Ranked → List Value
column_values column [] = []
column_values column (row ∷ rows) = option_to_list (nth_value column row) ++ column_values column rows

abbrev pub are_same : Value → Value → Bool
are_same v w = is_eq (value_cmp v w)

-- how many of the values are this one
abbrev pub count_same : Value → List Value → ℕ
count_same v [] = 0
count_same v (w ∷ ws) = (if are_same w v then 1 else 0) + count_same v ws

-- a value, and how many rows have it
abbrev pub Counted : Type 0
Counted = Value × ℕ

abbrev pub counted : Count → Counted
counted c = (c.value.now, c.n)

-- how many rows have this value, by the counts; 0 where it isn't among them
abbrev pub count_for : Value → List Counted → ℕ
count_for v [] = 0
count_for v (c ∷ cs) = if are_same c.0 v then c.1 else count_for v cs

-- each value is less than the next
abbrev pub AreRising : List Counted → Type 0
AreRising [] = Unit {0}
AreRising (c ∷ []) = Unit {0}
AreRising (c ∷ d ∷ cs) = (value_cmp c.0 d.0 ≡ Less) × AreRising (d ∷ cs)

-- The values rise, each is there at least once, and each value that there may be has as many as it stands among these. Only one list of
-- counts is so.
pub record AreCountsOf (vs : List Value) (cs : List Counted) : Type 0 where
  pub rising : AreRising cs
  pub some : AllByRecursion (λ c. 0 < c.1) cs
  pub exact : (v : Value) → count_for v cs ≡ count_same v vs

-- ---- the same, computed

-- the counts of values in order, after n of v
abbrev pub runs_after : Value → ℕ → List Value → List Counted
runs_after v n [] = (v, n) ∷ []
runs_after v n (w ∷ ws) = if are_same v w then runs_after v (n + 1) ws else (v, n) ∷ runs_after w 1 ws

-- the counts of values in order
abbrev pub runs : List Value → List Counted
runs [] = []
runs (v ∷ vs) = runs_after v 1 vs

-- the counts of values, in order of value
abbrev pub value_counts : List Value → List Counted
value_counts vs = runs (sorted_by value_cmp vs)

-- ---- what code holds

abbrev pub values_of : List (Bor Value) → List Value
values_of bs = map (λ b. b.now) bs

-- computed examples
abbrev five : Value
five = Number (pos 5)

abbrev seven : Value
seven = Number (pos 7)

abbrev red : Value
red = Text (codes "red")

numbers_and_a_text : value_counts (red ∷ seven ∷ five ∷ seven ∷ []) ≡ (five, 1) ∷ (seven, 2) ∷ (red, 1) ∷ []
numbers_and_a_text = refl

no_values : value_counts [] ≡ []
no_values = refl

two_sevens : count_same seven (red ∷ seven ∷ five ∷ seven ∷ []) ≡ 2
two_sevens = refl

none_of_six : count_for (Number (pos 6)) ((five, 1) ∷ (seven, 2) ∷ []) ≡ 0
none_of_six = refl

-- two rows, of which the second has no value in its first column
abbrev rows : List Ranked
rows =
    record { key = pos 1; score = 9; values = Some red ∷ Some five ∷ [] }
    ∷ record { key = pos 2; score = 9; values = None ∷ Some seven ∷ [] }
    ∷ []

first_column : column_values 0 rows ≡ red ∷ []
first_column = refl

second_column : column_values 1 rows ≡ five ∷ seven ∷ []
second_column = refl
