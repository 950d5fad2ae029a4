-- What CREATE TABLE does.
use Rattle.std.specs.Prelude.{ℕ, pos, ◌≡◌, nat_le, nat_lt, Bool, true, false, not, ◌||◌, ◌&&◌, is_some, List, [], ◌∷◌, length, map, Option, Some, None, codes, refl}
use Rattle.std.specs.List.{list_any, list_all}
use Rattle.std.specs.Option.{unwrap_or}
use Rattle.std.specs.FinMap.{get, entries}
use Rattle.ct_entry.specs.Keys.{same_list}
use Rattle.st_parse.specs.declared.statements.ColumnText.{ColumnText}
use Rattle.st_parse.specs.declared.statements.SortText.{SortText}
use Rattle.st_parse.specs.declared.statements.SortText.TheVariants.{Number as NumberText, Varchar2 as Varchar2Text, Clob as ClobText}
use Rattle.st_parse.specs.declared.statements.Whole.{Whole}
use Rattle.tb_table.specs.declared.columns.Sort.{Sort}
use Rattle.tb_table.specs.declared.columns.Sort.TheVariants.{Number, Varchar2, Clob}
use Rattle.tb_table.specs.declared.columns.Column.{Column}
use Rattle.tb_table.specs.Tables.{with_table}
use Rattle.ct_base.specs.Limits.{column_limit, table_limit, text_limit}
use Rattle.db_cond.specs.Faults.{ExistsAlready, WrongValues, OutOfRange, LimitReached}
use Rattle.db_state.specs.States.{StoreState, is_view}
use Rattle.db_state.specs.Effects.{Effect, Does, refuse, whole_count, Refused}
use Rattle.st_parse.specs.declared.statements.Whole.TheVariants.{Fits, Beyond}

abbrev pub is_number_sort : SortText → Bool
is_number_sort NumberText = true
is_number_sort (Varchar2Text size) = false
is_number_sort ClobText = false

-- the first column, and no other, is NUMBER PRIMARY KEY
abbrev pub is_key_first : List ColumnText → Bool
is_key_first [] = false
is_key_first (c ∷ cs) = (is_number_sort c.sort && c.primary) && list_all (λ (d : ColumnText). not d.primary) cs

-- no two columns have one name
abbrev pub names_differ : List ColumnText → Bool
names_differ [] = true
names_differ (c ∷ cs) = not (list_any (λ (d : ColumnText). same_list c.name d.name) cs) && names_differ cs

-- a size that VARCHAR2 may have, from 1 on
abbrev pub is_size : Option ℕ → Bool
is_size None = false
is_size (Some n) = nat_le 1 n && nat_le n text_limit

-- a VARCHAR2 column has such a size
abbrev pub is_sized : SortText → Bool
is_sized NumberText = true
is_sized (Varchar2Text size) = is_size (whole_count size)
is_sized ClobText = true

abbrev pub all_sized : List ColumnText → Bool
all_sized columns = list_all (λ (c : ColumnText). is_sized c.sort) columns

abbrev pub declared_sort : SortText → Sort
declared_sort NumberText = Number
declared_sort (Varchar2Text size) = Varchar2 (unwrap_or (whole_count size) 0)
declared_sort ClobText = Clob

abbrev pub column_of : ColumnText → Column
column_of c = record { name = c.name; sort = declared_sort c.sort }

-- the checks in their order: whether the table is there, and whether there are as many tables as there may be
abbrev pub check_table : Bool → Bool → List ℕ → List ColumnText → Effect → Effect
check_table there many t columns done =
    refuse (there || is_view t) (ExistsAlready t)
    (refuse (not (is_key_first columns && names_differ columns)) WrongValues
    (refuse (not (all_sized columns)) OutOfRange
    (refuse (nat_lt column_limit (length columns) || many) LimitReached
    done)))

abbrev pub table_created : List ℕ
table_created = codes "Table created.\n"

abbrev pub with_new_table : StoreState → List ℕ → List ColumnText → StoreState
with_new_table m t columns = record m { tables = with_table m.tables t (map column_of columns) }

abbrev pub create_table : StoreState → List ℕ → List ColumnText → Effect
create_table m t columns =
    check_table (is_some (get m.tables t)) (nat_le table_limit (length (entries m.tables))) t columns
    (Does (with_new_table m t columns) table_created)

-- computed examples
abbrev number_text : List ℕ → Bool → ColumnText
number_text name primary = record { name = name; sort = NumberText; primary = primary }

abbrev varchar2_text : Whole → ColumnText
varchar2_text size = record { name = codes "title"; sort = Varchar2Text size; primary = false }

-- id NUMBER PRIMARY KEY, title VARCHAR2(4000), price NUMBER
abbrev three_columns : List ColumnText
three_columns = number_text (codes "id") true ∷ varchar2_text (Fits (pos 4000)) ∷ number_text (codes "price") false ∷ []

-- id NUMBER PRIMARY KEY, a NUMBER, b NUMBER, up to p NUMBER
abbrev seventeen_columns : List ColumnText
seventeen_columns = number_text (codes "id") true ∷ map (λ letter. number_text (letter ∷ []) false) (codes "abcdefghijklmnop")

a_good_table : (done : Effect) → check_table false false (codes "docs") three_columns done ≡ done
a_good_table done = refl

there_and_too_many_columns : (done : Effect) → check_table true false (codes "docs") seventeen_columns done ≡ Refused (ExistsAlready (codes "docs"))
there_and_too_many_columns done = refl

name_of_a_view : (done : Effect) → check_table false false (codes "ctx_user_pending") three_columns done ≡ Refused (ExistsAlready (codes "ctx_user_pending"))
name_of_a_view done = refl

two_of_one_name : (done : Effect)
    → check_table false false (codes "docs") (number_text (codes "id") true ∷ number_text (codes "id") false ∷ varchar2_text (Fits (pos 0)) ∷ []) done ≡ Refused WrongValues
two_of_one_name done = refl

no_key : (done : Effect) → check_table false false (codes "docs") (number_text (codes "id") false ∷ []) done ≡ Refused WrongValues
no_key done = refl

two_keys : (done : Effect) → check_table false false (codes "docs") (number_text (codes "id") true ∷ number_text (codes "price") true ∷ []) done ≡ Refused WrongValues
two_keys done = refl

size_of_none : (done : Effect) → check_table false true (codes "docs") (number_text (codes "id") true ∷ varchar2_text (Fits (pos 0)) ∷ []) done ≡ Refused OutOfRange
size_of_none done = refl

size_too_large : (done : Effect) → check_table false false (codes "docs") (number_text (codes "id") true ∷ varchar2_text (Fits (pos 4001)) ∷ []) done ≡ Refused OutOfRange
size_too_large done = refl

size_beyond : (done : Effect) → check_table false false (codes "docs") (number_text (codes "id") true ∷ varchar2_text Beyond ∷ []) done ≡ Refused OutOfRange
size_beyond done = refl

too_many_columns : (done : Effect) → check_table false false (codes "docs") seventeen_columns done ≡ Refused LimitReached
too_many_columns done = refl

too_many_tables : (done : Effect) → check_table false true (codes "docs") three_columns done ≡ Refused LimitReached
too_many_tables done = refl
