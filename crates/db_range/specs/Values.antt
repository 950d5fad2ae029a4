-- What conditions say of the bytes of a column's value.
use Rattle.std.specs.Prelude.{ℕ, ℤ, pos, ◌≡◌, nat_le, Bool, List, [], ◌∷◌, length, Option, Some, None, codes, refl}
use Rattle.std.specs.Bool.{if◌then◌else◌}
use Rattle.std.specs.List.{list_any}
use Rattle.std.specs.Option.{option_or}
use Rattle.ct_bytes.specs.RowKeys.{row_bytes}
use Rattle.ct_entry.specs.Keys.{same_list, counted_bytes, IsRow}
use Rattle.tb_table.specs.declared.columns.Sort.{Sort}
use Rattle.tb_table.specs.declared.columns.Sort.TheVariants.{Number as NumberSort, Varchar2, Clob}
use Rattle.tb_table.specs.declared.columns.Column.{Column}
use Rattle.st_parse.specs.declared.statements.Operand.{Operand}
use Rattle.st_parse.specs.declared.statements.Operand.TheVariants.{Number, Text}
use Rattle.st_parse.specs.declared.statements.Whole.TheVariants.{Fits}
use Rattle.st_parse.specs.declared.statements.Compare.{Compare}
use Rattle.st_parse.specs.declared.statements.Compare.TheVariants.{Equal, Less, AtMost, Greater, AtLeast}
use Rattle.st_parse.specs.declared.statements.Cond.{Cond}
use Rattle.st_parse.specs.declared.statements.Cond.TheVariants.{Compare as Compared, Between, OneOf}
use Rattle.cat_index.specs.Filings.{sub_text_limit}
use Rattle.db_rows.specs.Checking.{cond_column, sort_of}
use Rattle.db_rows.specs.Bounds.{AreTightNumbers, BoundNumbers}
use Rattle.db_rows.specs.declared.bounds.KeyBounds.{KeyBounds}
use Rattle.db_range.specs.declared.places.Range.{Range}
use Rattle.db_range.specs.Places.{beginning}

-- one of the conditions is on the column with this name
abbrev pub is_any_on : List ℕ → List Cond → Bool
is_any_on name conds = list_any (λ cond. same_list (cond_column cond) name) conds

-- the sort of the column, if one is
abbrev pub bounded_sort : List Column → List Cond → List ℕ → Option Sort
bounded_sort columns conds name = if is_any_on name conds then sort_of name columns else None

-- ---- numbers

-- These are bounds of the numbers, of 64 bits, that all conditions on the column allow; no others lie within, but between those of a list.
pub record AreColumnBounds (name : List ℕ) (conds : List Cond) (b : KeyBounds) : Type 0 where
  pub least : IsRow b.least.0
  pub greatest : IsRow b.greatest.0
  pub bound : BoundNumbers name conds b
  pub tight : AreTightNumbers name conds b

-- from the bytes of the least to those of the greatest
abbrev pub number_range : KeyBounds → Range
number_range b = record { low = row_bytes b.least.0; high = row_bytes b.greatest.0 }

-- The range of numbers that lie within such bounds.
pub record IsNumberRange (conds : List Cond) (name : List ℕ) (range : Option Range) : Type 0 where
  pub bounds : KeyBounds
  pub are : AreColumnBounds name conds bounds
  pub is : range ≡ Some (number_range bounds)

-- ---- texts

-- the text that a value has to be, so that it compares so with the operand
abbrev pub asked_text : Compare → Operand → Option (List ℕ)
asked_text Equal (Text text) = Some text
asked_text Equal (Number n) = None
asked_text Less operand = None
asked_text AtMost operand = None
asked_text Greater operand = None
asked_text AtLeast operand = None

-- so that a condition holds
abbrev pub text_of_cond : Cond → Option (List ℕ)
text_of_cond (Compared column op operand) = asked_text op operand
text_of_cond (Between column low high) = None
text_of_cond (OneOf column operands) = None

-- if the condition is on the column with this name
abbrev pub text_on : List ℕ → Cond → Option (List ℕ)
text_on name cond = if same_list (cond_column cond) name then text_of_cond cond else None

-- the first text that a condition so asks for
abbrev pub wanted_text : List Cond → List ℕ → Option (List ℕ)
wanted_text [] name = None
wanted_text (cond ∷ conds) name = option_or (text_on name cond) (wanted_text conds name)

-- its bytes; none of a text that no column of a sub-index has
abbrev pub text_range : Option (List ℕ) → Option Range
text_range None = None
text_range (Some text) = if nat_le (length text) sub_text_limit then Some (beginning (counted_bytes text)) else None

-- ---- columns

-- the range that conditions give to a column of this sort
abbrev pub IsRangeOfSort : Option Sort → List Cond → List ℕ → Option Range → Type 0
IsRangeOfSort None conds name range = range ≡ None
IsRangeOfSort (Some NumberSort) conds name range = IsNumberRange conds name range
IsRangeOfSort (Some (Varchar2 size)) conds name range = range ≡ text_range (wanted_text conds name)
IsRangeOfSort (Some Clob) conds name range = range ≡ None

-- THE RANGE OF THE BYTES OF A VALUE that a column with this name has in the rows that meet all conditions: of numbers from the least to the greatest, and
-- of texts the one that a condition asks for. None where nothing is known of them, as where no condition is on the column.
abbrev pub IsValueRange : List Column → List Cond → List ℕ → Option Range → Type 0
IsValueRange columns conds name range = IsRangeOfSort (bounded_sort columns conds name) conds name range

-- ---- computed examples: of a table of id NUMBER PRIMARY KEY, kind VARCHAR2(20), price NUMBER
abbrev pub hat_columns : List Column
hat_columns = record { name = codes "id"; sort = NumberSort } ∷ record { name = codes "kind"; sort = Varchar2 20 } ∷ record { name = codes "price"; sort = NumberSort } ∷ []

abbrev pub kind_is : List ℕ → Cond
kind_is text = Compared (codes "kind") Equal (Text text)

abbrev price_below : ℤ → Cond
price_below n = Compared (codes "price") Less (Number (Fits n))

the_first_text : wanted_text (price_below (pos 7) ∷ kind_is (codes "hat") ∷ kind_is (codes "car") ∷ []) (codes "kind") ≡ Some (codes "hat")
the_first_text = refl

of_another_column : wanted_text (kind_is (codes "hat") ∷ []) (codes "name") ≡ None
of_another_column = refl

texts_below : wanted_text (Compared (codes "kind") Less (Text (codes "hat")) ∷ []) (codes "kind") ≡ None
texts_below = refl

its_bytes : text_range (Some (codes "hat")) ≡ Some (record { low = 3 ∷ codes "hat"; high = 3 ∷ codes "hat" })
its_bytes = refl

of_texts : IsValueRange hat_columns (kind_is (codes "hat") ∷ []) (codes "kind") (Some (beginning (3 ∷ codes "hat")))
of_texts = refl

without_a_condition : IsValueRange hat_columns (kind_is (codes "hat") ∷ []) (codes "price") None
without_a_condition = refl

of_numbers : bounded_sort hat_columns (price_below (pos 7) ∷ []) (codes "price") ≡ Some NumberSort
of_numbers = refl

from_three_to_nine : number_range (record { least = record { 0 = pos 3 }; greatest = record { 0 = pos 9 } }) ≡ record { low = 0x80 ∷ 0 ∷ 0 ∷ 0 ∷ 0 ∷ 0 ∷ 0 ∷ 3 ∷ []; high = 0x80 ∷ 0 ∷ 0 ∷ 0 ∷ 0 ∷ 0 ∷ 0 ∷ 9 ∷ [] }
unfolding row_bytes
from_three_to_nine = refl
