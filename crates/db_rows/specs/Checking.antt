-- The checks of the conditions of a statement against the columns of a table.
use Rattle.std.specs.Prelude.{ℕ, ◌≡◌, Bool, true, false, not, List, [], ◌∷◌, map, Option, Some, None, pos, codes, refl}
use Rattle.std.specs.Bool.{if◌then◌else◌}
use Rattle.std.specs.List.{list_all, list_any}
use Rattle.ct_entry.specs.Keys.{same_list}
use Rattle.st_parse.specs.declared.statements.Operand.{Operand}
use Rattle.st_parse.specs.declared.statements.Operand.TheVariants.{Text, Number}
use Rattle.st_parse.specs.declared.statements.Whole.TheVariants.{Fits, Beyond}
use Rattle.st_parse.specs.declared.statements.Compare.TheVariants.{Equal, Less}
use Rattle.st_parse.specs.declared.statements.Cond.{Cond}
use Rattle.st_parse.specs.declared.statements.Cond.TheVariants.{Compare, Between, OneOf}
use Rattle.tb_table.specs.declared.columns.Sort.{Sort}
use Rattle.tb_table.specs.declared.columns.Sort.TheVariants.{Number as NumberSort, Varchar2, Clob}
use Rattle.tb_table.specs.declared.columns.Column.{Column}
use Rattle.db_cond.specs.Faults.{UnknownName, WrongValues, OutOfRange}
use Rattle.db_state.specs.Columns.{first_unknown}
use Rattle.db_state.specs.Effects.{Effect, Refused, refuse, refuse_by, is_beyond}

-- the column that the condition is on
abbrev pub cond_column : Cond → List ℕ
cond_column (Compare column op operand) = column
cond_column (Between column low high) = column
cond_column (OneOf column operands) = column

abbrev pub cond_columns : List Cond → List (List ℕ)
cond_columns conds = map cond_column conds

-- what the value of the column is compared with
abbrev pub cond_operands : Cond → List Operand
cond_operands (Compare column op operand) = operand ∷ []
cond_operands (Between column low high) = low ∷ high ∷ []
cond_operands (OneOf column operands) = operands

-- ---- types

-- a number outside 64 bits is a number all the same
abbrev pub is_number_operand : Operand → Bool
is_number_operand (Number n) = true
is_number_operand (Text text) = false

abbrev pub is_text_operand : Operand → Bool
is_text_operand (Number n) = false
is_text_operand (Text text) = true

-- the sort of the column with this name
abbrev pub sort_of : List ℕ → List Column → Option Sort
sort_of name [] = None
sort_of name (c ∷ cs) = if same_list name c.name then Some c.sort else sort_of name cs

-- a NUMBER is compared with numbers, a VARCHAR2 with texts, and a CLOB with nothing
abbrev pub fit_sort : List Operand → Option Sort → Bool
fit_sort operands None = false
fit_sort operands (Some NumberSort) = list_all is_number_operand operands
fit_sort operands (Some (Varchar2 size)) = list_all is_text_operand operands
fit_sort operands (Some Clob) = false

-- the condition is on a column that is there, and compares its values with such as it has
abbrev pub fits_cond : List Column → Cond → Bool
fits_cond columns cond = fit_sort (cond_operands cond) (sort_of (cond_column cond) columns)

abbrev pub fit_columns : List Column → List Cond → Bool
fit_columns columns conds = list_all (fits_cond columns) conds

-- ---- ranges

abbrev pub is_beyond_operand : Operand → Bool
is_beyond_operand (Number n) = is_beyond n
is_beyond_operand (Text text) = false

-- a number of the condition is outside 64 bits
abbrev pub is_beyond_cond : Cond → Bool
is_beyond_cond cond = list_any is_beyond_operand (cond_operands cond)

abbrev pub has_beyond : List Cond → Bool
has_beyond conds = list_any is_beyond_cond conds

-- ---- the checks, each of which a statement puts into its order

abbrev pub check_known : List Column → List Cond → Effect → Effect
check_known columns conds done = refuse_by (first_unknown (cond_columns conds) columns) UnknownName done

abbrev pub check_types : List Column → List Cond → Effect → Effect
check_types columns conds done = refuse (not (fit_columns columns conds)) WrongValues done

abbrev pub check_ranges : List Cond → Effect → Effect
check_ranges conds done = refuse (has_beyond conds) OutOfRange done

-- all of them, of a statement that has nothing else to be checked between
abbrev pub check_conds : List Column → List Cond → Effect → Effect
check_conds columns conds done = check_known columns conds (check_types columns conds (check_ranges conds done))

-- computed examples: a table of id NUMBER PRIMARY KEY, title VARCHAR2(3), body CLOB
abbrev title_columns : List Column
title_columns = record { name = codes "id"; sort = NumberSort } ∷ record { name = codes "title"; sort = Varchar2 3 } ∷ record { name = codes "body"; sort = Clob } ∷ []

abbrev one : Operand
one = Number (Fits (pos 1))

abbrev fox : Operand
fox = Text (codes "fox")

abbrev id_is : Operand → Cond
id_is operand = Compare (codes "id") Equal operand

the_numbers : fits_cond title_columns (OneOf (codes "id") (one ∷ Number Beyond ∷ [])) ≡ true
the_numbers = refl

-- a text longer than its column is of its type
the_texts : fits_cond title_columns (Between (codes "title") fox (Text (codes "foxes"))) ≡ true
the_texts = refl

one_text_among_numbers : fits_cond title_columns (OneOf (codes "id") (one ∷ fox ∷ [])) ≡ false
one_text_among_numbers = refl

a_number_at_the_end : fits_cond title_columns (Between (codes "title") fox one) ≡ false
a_number_at_the_end = refl

no_clob : fits_cond title_columns (Compare (codes "body") Equal fox) ≡ false
no_clob = refl

no_clob_in_numbers : fits_cond title_columns (Compare (codes "body") Less one) ≡ false
no_clob_in_numbers = refl

not_there : fits_cond title_columns (Compare (codes "price") Equal one) ≡ false
not_there = refl

unknown_before_types : (done : Effect) → check_conds title_columns (id_is fox ∷ Compare (codes "price") Equal (Number Beyond) ∷ []) done ≡ Refused (UnknownName (codes "price"))
unknown_before_types done = refl

types_before_ranges : (done : Effect) → check_conds title_columns (id_is (Number Beyond) ∷ id_is fox ∷ []) done ≡ Refused WrongValues
types_before_ranges done = refl

a_number_beyond : (done : Effect) → check_conds title_columns (id_is one ∷ OneOf (codes "id") (one ∷ Number Beyond ∷ []) ∷ []) done ≡ Refused OutOfRange
a_number_beyond done = refl

good_conditions : (done : Effect) → check_conds title_columns (id_is one ∷ Compare (codes "title") Less fox ∷ []) done ≡ done
good_conditions done = refl

no_conditions : (done : Effect) → check_conds title_columns [] done ≡ done
no_conditions done = refl
