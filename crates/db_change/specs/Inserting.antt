-- What INSERT does.
use Rattle.std.specs.Prelude.{◌≡◌, Result, IfOk, ℕ, ℤ, pos, ◌≤◌, ◌^◌, ◌==◌, nat_le, nat_lt, Bool, true, false, not, ◌||◌, ◌&&◌, is_some, List, [], ◌∷◌, length, map, Option, Some, None, codes, FitsSigned, refl}
use Rattle.std.specs.Int.{w64}
use Rattle.std.specs.Str.{IsUtf8}
use Rattle.std.specs.Bool.{if◌then◌else◌}
use Rattle.std.specs.List.{list_any, list_all, filter_map}
use Rattle.std.specs.FinMap.{get, entries}
use Rattle.ct_base.specs.declared.lists.Value.{Value}
use Rattle.ct_base.specs.declared.lists.Value.TheVariants.{Number as NumberValue, Text as TextValue}
use Rattle.ct_entry.specs.Keys.{Key, same_list}
use Rattle.st_parse.specs.declared.statements.Operand.{Operand}
use Rattle.st_parse.specs.declared.statements.Operand.TheVariants.{Text, Number}
use Rattle.st_parse.specs.declared.statements.Whole.TheVariants.{Fits, Beyond}
use Rattle.tb_table.specs.declared.columns.Sort.{Sort}
use Rattle.tb_table.specs.declared.columns.Sort.TheVariants.{Number as NumberSort, Varchar2, Clob}
use Rattle.tb_table.specs.declared.columns.Column.{Column}
use Rattle.tb_table.specs.Tables.{Table, numbers_of, texts_of, with_row}
use Rattle.ct_base.specs.Limits.{row_limit, text_limit}
use Rattle.ix_kinds.specs.Rows.{RowChange, row_change}
use Rattle.ix_kinds.specs.Statements.{every, indexes_after_row}
use Rattle.ix_indexes.specs.Indexes.{kinds}
use Rattle.db_cond.specs.Faults.{UnknownName, WrongValues, KeyExists, ValueTooLong, OutOfRange, LimitReached}
use Rattle.ct_keep.specs.declared.keepers.KeepFault.{KeepFault}
use Rattle.ct_keep.specs.Content.{Content, after}
use Rattle.tb_table.specs.Spelling.{insert_changes}
use Rattle.db_state.specs.declared.plans.Plan.{Plan}
use Rattle.db_state.specs.Plans.{IsPlan}
use Rattle.db_state.specs.States.{StoreState}
use Rattle.db_state.specs.Entries.{Becomes}
use Rattle.db_state.specs.Effects.{Effect, Does, refuse, refuse_by, with_found, Refused}
use Rattle.db_state.specs.Columns.{first_unknown}
use Rattle.db_rows.specs.Checking.{is_beyond_operand}

-- ---- the list of columns

abbrev pub listed_names : Option (List (List ℕ)) → List (List ℕ)
listed_names None = []
listed_names (Some names) = names

-- the list names each column once; where there is none all are meant, in their order
abbrev pub covers : Option (List (List ℕ)) → List Column → Bool
covers None columns = true
covers (Some names) columns = (length names == length columns) && list_all (λ (c : Column). list_any (same_list c.name) names) columns

-- the value at the place where a name stands
abbrev pub value_under : List ℕ → List (List ℕ) → List Operand → Option Operand
value_under name [] values = None
value_under name (n ∷ names) [] = None
value_under name (n ∷ names) (v ∷ values) = if same_list name n then Some v else value_under name names values

-- the values in the order of the columns
abbrev pub arranged : Option (List (List ℕ)) → List Column → List Operand → List Operand
arranged None columns values = values
arranged (Some names) columns values = filter_map (λ (c : Column). value_under c.name names values) columns

-- ---- the values, each with its column

abbrev pub is_of_sort : Sort → Operand → Bool
is_of_sort NumberSort (Number n) = true
is_of_sort NumberSort (Text text) = false
is_of_sort (Varchar2 size) (Number n) = false
is_of_sort (Varchar2 size) (Text text) = true
is_of_sort Clob (Number n) = false
is_of_sort Clob (Text text) = true

-- as many values as columns, each of its column's sort
abbrev pub are_of_sorts : List Column → List Operand → Bool
are_of_sorts [] [] = true
are_of_sorts [] (v ∷ vs) = false
are_of_sorts (c ∷ cs) [] = false
are_of_sorts (c ∷ cs) (v ∷ vs) = is_of_sort c.sort v && are_of_sorts cs vs

abbrev pub is_too_long : Sort → Operand → Bool
is_too_long NumberSort v = false
is_too_long (Varchar2 size) (Number n) = false
is_too_long (Varchar2 size) (Text text) = nat_lt size (length text)
is_too_long Clob (Number n) = false
is_too_long Clob (Text text) = nat_lt text_limit (length text)

abbrev pub has_too_long : List Column → List Operand → Bool
has_too_long [] vs = false
has_too_long (c ∷ cs) [] = false
has_too_long (c ∷ cs) (v ∷ vs) = is_too_long c.sort v || has_too_long cs vs

-- the key of a row: its first value
abbrev pub key_in : List Operand → Option ℤ
key_in (Number (Fits n) ∷ vs) = Some n
key_in vs = None

abbrev pub has_row : Table → Option ℤ → Bool
has_row x None = false
has_row x (Some r) = is_some (get x.rows r)

-- the key, where it is taken
abbrev pub taken_key : Bool → Option ℤ → Option ℤ
taken_key true key = key
taken_key false key = None

-- what a row keeps of a value that fits
abbrev pub kept_value : Operand → Value
kept_value (Text text) = TextValue text
kept_value (Number (Fits n)) = NumberValue n
kept_value (Number Beyond) = NumberValue (pos 0)

abbrev pub behind_key : List Operand → List Operand
behind_key [] = []
behind_key (v ∷ vs) = vs

abbrev pub others_kept : List Operand → List Value
others_kept vs = map kept_value (behind_key vs)

abbrev pub number_value : Operand → Option ℤ
number_value (Text text) = None
number_value (Number (Fits n)) = Some n
number_value (Number Beyond) = Some (pos 0)

abbrev pub text_value : Operand → Option (List ℕ)
text_value (Text text) = Some text
text_value (Number n) = None

-- a number has 64 bits, and a text is one in UTF-8
abbrev pub IsNumberKept : Operand → Type 0
IsNumberKept (Text text) = Unit {0}
IsNumberKept (Number (Fits n)) = FitsSigned w64 n
IsNumberKept (Number Beyond) = Unit {0}

abbrev pub IsTextKept : Operand → Type 0
IsTextKept (Text text) = IsUtf8 text
IsTextKept (Number n) = Unit {0}

-- a text is one that an entry may have, and that can be read
abbrev pub IsShortValue : Operand → Type 0
IsShortValue (Text text) = length text ≤ 2 ^ 19
IsShortValue (Number n) = Unit {0}

-- ---- the statement

-- the checks of the list, in their order
abbrev pub check_list : List Column → Option (List (List ℕ)) → List Operand → Effect → Effect
check_list columns names values done =
    refuse_by (first_unknown (listed_names names) columns) UnknownName
    (refuse (not (covers names columns) || not (length values == length columns)) WrongValues
    done)

-- the checks of the values in the order of the columns, in their order: whether the table has a row of the key, and whether it has as many rows as it may have
abbrev pub check_row_values : Bool → Bool → List Column → List Operand → Effect → Effect
check_row_values taken many columns values done =
    refuse (not (are_of_sorts columns values)) WrongValues
    (refuse_by (taken_key taken (key_in values)) KeyExists
    (refuse (has_too_long columns values) ValueTooLong
    (refuse (list_any is_beyond_operand values) OutOfRange
    (refuse many LimitReached
    done))))

abbrev pub row_created : List ℕ
row_created = codes "1 row created.\n"

-- the table has the row, and each index on the table has been told of it
abbrev pub with_new_row : StoreState → List ℕ → ℤ → List Value → StoreState
with_new_row m t r vs = record m { tables = with_row m.tables t r vs; indexes = indexes_after_row kinds (every kinds) t (row_change m.tables (with_row m.tables t r vs) t r) m.indexes }

abbrev pub insert_row : StoreState → List ℕ → List Operand → ℤ → Effect
insert_row m t values r = Does (with_new_row m t r (others_kept values)) row_created

-- Values that pass the checks have a key: the first column of a table is a NUMBER, so the first value is a number, and one out
-- of range is refused before. So the last OutOfRange here is never reached.
abbrev pub insert_values : StoreState → List ℕ → Table → List Operand → Effect
insert_values m t x values =
    check_row_values (has_row x (key_in values)) (nat_le row_limit (length (entries x.rows))) x.columns values
    (with_found (key_in values) OutOfRange (λ (r : ℤ). insert_row m t values r))

-- no check holds of values in the order of the columns, of which this is the key
pub record IsFreeRow (x : Table) (values : List Operand) (r : ℤ) : Type 0 where
  pub key : key_in values ≡ Some r
  pub free : get x.rows r ≡ None
  pub sorts : are_of_sorts x.columns values ≡ true
  pub short : has_too_long x.columns values ≡ false
  pub within : list_any is_beyond_operand values ≡ false
  pub few : nat_le row_limit (length (entries x.rows)) ≡ false

abbrev pub insert_into : StoreState → List ℕ → Option (List (List ℕ)) → List Operand → Effect
insert_into m t names values =
    with_found (get m.tables t) (UnknownName t) (λ (x : Table).
    check_list x.columns names values
    (insert_values m t x (arranged names x.columns values)))

-- ---- what its functions give

-- the changes of a row of these values behind the key
abbrev pub inserted_row_changes : List ℕ → ℤ → List Operand → List (Key × Option (List ℕ))
inserted_row_changes t r values = insert_changes t r (numbers_of (map kept_value values)) (texts_of (map kept_value values))

-- a row that comes, with these values
abbrev pub coming : ℤ → List Value → RowChange
coming r vs = record { row = r; old = None; new = Some vs }

-- a batch by which the content comes to stand for the state with the new row
abbrev pub MakesRow : StoreState → Content → List ℕ → ℤ → List Operand → List (List ℕ × Option (List ℕ)) → Type 0
MakesRow m c t r values batch = Becomes (with_new_row m t r (others_kept values)) c (after batch c)

-- what the statement comes to in a table with these columns
abbrev pub PlansRow : StoreState → Content → Table → List ℕ → List Column → List Operand → Result Plan KeepFault → Type 0
PlansRow m c x t columns values result = x.columns ≡ columns → IfOk result (IsPlan (insert_values m t x values) row_created c)

-- computed examples: a table of id NUMBER PRIMARY KEY, title VARCHAR2(3), price NUMBER
abbrev title_columns : List Column
title_columns = record { name = codes "id"; sort = NumberSort } ∷ record { name = codes "title"; sort = Varchar2 3 } ∷ record { name = codes "price"; sort = NumberSort } ∷ []

abbrev one : Operand
one = Number (Fits (pos 1))

abbrev beyond : Operand
beyond = Number Beyond

unknown_and_too_many : (done : Effect) → check_list title_columns (Some (codes "id" ∷ codes "nope" ∷ [])) (one ∷ one ∷ one ∷ []) done ≡ Refused (UnknownName (codes "nope"))
unknown_and_too_many done = refl

one_twice : (done : Effect) → check_list title_columns (Some (codes "id" ∷ codes "id" ∷ codes "title" ∷ [])) (one ∷ one ∷ Text (codes "fox") ∷ []) done ≡ Refused WrongValues
one_twice done = refl

too_few_values : (done : Effect) → check_list title_columns None (one ∷ []) done ≡ Refused WrongValues
too_few_values done = refl

any_order : (done : Effect) → check_list title_columns (Some (codes "price" ∷ codes "id" ∷ codes "title" ∷ [])) (beyond ∷ one ∷ Text (codes "fox") ∷ []) done ≡ done
any_order done = refl

in_order : arranged (Some (codes "price" ∷ codes "id" ∷ codes "title" ∷ [])) title_columns (beyond ∷ one ∷ Text (codes "fox") ∷ []) ≡ one ∷ Text (codes "fox") ∷ beyond ∷ []
in_order = refl

wrong_sort_and_taken : (done : Effect) → check_row_values true true title_columns (one ∷ one ∷ one ∷ []) done ≡ Refused WrongValues
wrong_sort_and_taken done = refl

taken_and_too_long : (done : Effect) → check_row_values true true title_columns (one ∷ Text (codes "four") ∷ beyond ∷ []) done ≡ Refused (KeyExists (pos 1))
taken_and_too_long done = refl

too_long_and_beyond : (done : Effect) → check_row_values false true title_columns (one ∷ Text (codes "four") ∷ beyond ∷ []) done ≡ Refused ValueTooLong
too_long_and_beyond done = refl

beyond_and_too_many : (done : Effect) → check_row_values false true title_columns (one ∷ Text (codes "fox") ∷ beyond ∷ []) done ≡ Refused OutOfRange
beyond_and_too_many done = refl

too_many_rows : (done : Effect) → check_row_values false true title_columns (one ∷ Text (codes "fox") ∷ one ∷ []) done ≡ Refused LimitReached
too_many_rows done = refl

a_good_row : (done : Effect) → check_row_values false false title_columns (one ∷ Text (codes "fox") ∷ one ∷ []) done ≡ done
a_good_row done = refl

-- a key out of range is no key that could be taken
key_beyond : (done : Effect) → check_row_values true false title_columns (beyond ∷ Text (codes "fox") ∷ one ∷ []) done ≡ Refused OutOfRange
key_beyond done = refl

it_comes : coming (pos 1) (others_kept (one ∷ Text (codes "fox") ∷ one ∷ [])) ≡ record { row = pos 1; old = None; new = Some (TextValue (codes "fox") ∷ NumberValue (pos 1) ∷ []) }
it_comes = refl

kept : others_kept (one ∷ Text (codes "fox") ∷ one ∷ []) ≡ TextValue (codes "fox") ∷ NumberValue (pos 1) ∷ []
kept = refl
