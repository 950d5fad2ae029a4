-- How values and rows compare.
use Rattle.std.specs.Prelude.{ℕ, ℤ, ◌≡◌, pos, negsuc, Bool, true, false, List, [], ◌∷◌, codes, slice_get, Option, Some, None, refl}
use Rattle.std.specs.declared.cmp.Ordering.{Ordering}
use Rattle.std.specs.declared.cmp.Ordering.TheVariants.{Less, Greater}
use Rattle.std.specs.Option.{option_and_then, option_cmp}
use Rattle.std.specs.Ordering.{int_cmp, nat_cmp, ordering_reverse, ordering_then}
use Rattle.std.specs.Cmp.Lexicographic.{slice_cmp}
use Rattle.ct_base.specs.declared.lists.Value.{Value}
use Rattle.ct_base.specs.declared.lists.Value.TheVariants.{Number, Text}
use Rattle.rs_result.specs.declared.rows.ResultRow.{ResultRow}
use Rattle.rs_result.specs.declared.rows.By.{By}
use Rattle.rs_result.specs.declared.rows.By.TheVariants.{Score, Column}
use Rattle.rs_result.specs.declared.rows.OrderBy.{OrderBy}

-- what the order sees of a row
pub record Ranked : Type 0 where
  pub key : ℤ
  pub score : ℕ
  pub values : List (Option Value)

-- a row without its item
abbrev pub ranked : {T : Type 0} → ResultRow T → Ranked
ranked row = record { key = row.key.0; score = row.score; values = row.values.items }

-- numbers by size, texts by their bytes, and any number is less than any text
abbrev pub value_cmp : Value → Value → Ordering
value_cmp (Number n) (Number k) = int_cmp n k
value_cmp (Number n) (Text t) = Less
value_cmp (Text s) (Number k) = Greater
value_cmp (Text s) (Text t) = slice_cmp nat_cmp s t

-- the value with this index, from 0 on, where the row has one
abbrev pub nth_value : ℕ → Ranked → Option Value
nth_value column row = option_and_then (λ v. v) (slice_get row.values column)

abbrev pub turned : Bool → Ordering → Ordering
turned true o = ordering_reverse o
turned false o = o

-- two rows by their scores, or by a column, where a value that isn't there is less than any that is
abbrev pub by_cmp : By → Ranked → Ranked → Ordering
by_cmp Score row other = nat_cmp row.score other.score
by_cmp (Column column) row other = option_cmp value_cmp (nth_value column row) (nth_value column other)

abbrev pub key_cmp : OrderBy → Ranked → Ranked → Ordering
key_cmp key row other = turned key.down (by_cmp key.by row other)

-- two rows by the keys, the first first; where all tie, by their own keys
abbrev pub rank_cmp : List OrderBy → Ranked → Ranked → Ordering
rank_cmp [] row other = int_cmp row.key other.key
rank_cmp (key ∷ by) row other = ordering_then (key_cmp key row other) (rank_cmp by row other)

-- computed examples
numbers_by_size : value_cmp (Number (negsuc 9)) (Number (pos 3)) ≡ Less
numbers_by_size = refl

numbers_before_texts : value_cmp (Text (codes "1")) (Number (pos 3)) ≡ Greater
numbers_before_texts = refl

texts_by_bytes : value_cmp (Text (codes "B")) (Text (codes "a")) ≡ Less
texts_by_bytes = refl

a_prefix_first : value_cmp (Text (codes "ab")) (Text (codes "a")) ≡ Greater
a_prefix_first = refl

-- a row with a value in its second column alone
abbrev second_only : Ranked
second_only = record { key = pos 4; score = 7; values = None ∷ Some (Number (negsuc 0)) ∷ [] }

none_there : nth_value 0 second_only ≡ None
none_there = refl

none_so_far : nth_value 2 second_only ≡ None
none_so_far = refl

missing_is_least : by_cmp (Column 1) (record { key = pos 5; score = 7; values = [] }) second_only ≡ Less
missing_is_least = refl

turned_with_its_key : key_cmp (record { by = Column 1; down = true }) (record { key = pos 5; score = 7; values = [] }) second_only ≡ Greater
turned_with_its_key = refl
