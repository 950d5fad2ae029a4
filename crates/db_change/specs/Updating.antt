-- What UPDATE does.
use Rattle.std.specs.Prelude.{ℕ, ℤ, suc, pos, ◌≡◌, Bool, true, false, not, ◌||◌, List, [], ◌∷◌, ◌++◌, length, map, Option, Some, None, codes, refl}
use Rattle.std.specs.Bool.{if◌then◌else◌}
use Rattle.std.specs.List.{list_any, list_all, filter_map, cons_option}
use Rattle.std.specs.Option.{option_map, option_and_then, unwrap_or}
use Rattle.std.specs.FinMap.{get}
use Rattle.ct_base.specs.declared.lists.Value.{Value}
use Rattle.ct_base.specs.declared.lists.Value.TheVariants.{Number as NumberValue, Text as TextValue}
use Rattle.ct_entry.specs.Keys.{Key, at, same_list}
use Rattle.ct_entry.specs.Changes.{spell}
use Rattle.ct_entry.specs.Each.{each}
use Rattle.ct_keep.specs.Content.{Content}
use Rattle.st_parse.specs.declared.statements.Assign.{Assign}
use Rattle.st_parse.specs.declared.statements.Cond.{Cond}
use Rattle.st_parse.specs.declared.statements.Operand.{Operand}
use Rattle.st_parse.specs.declared.statements.Operand.TheVariants.{Text, Number}
use Rattle.st_parse.specs.declared.statements.Whole.TheVariants.{Fits, Beyond}
use Rattle.tb_table.specs.declared.columns.Sort.{Sort}
use Rattle.tb_table.specs.declared.columns.Sort.TheVariants.{Number as NumberSort, Varchar2, Clob}
use Rattle.tb_table.specs.declared.columns.Column.{Column}
use Rattle.tb_table.specs.Rules.{others}
use Rattle.tb_table.specs.Tables.{Table, Tables, numbers_of, row_at, with_row}
use Rattle.tb_table.specs.Spelling.{insert_changes}
use Rattle.ix_kinds.specs.Rows.{RowChange}
use Rattle.ix_kinds.specs.Statements.{tables_after, looks_at_any, indexes_after}
use Rattle.ix_indexes.specs.Indexes.{kinds}
use Rattle.ix_indexes.specs.declared.loading.TableIndex.{TableIndex}
use Rattle.ix_indexes.specs.Noting.{Noted, all_noted_changes, noted_indexes}
use Rattle.db_cond.specs.Faults.{UnknownName, WrongValues, ValueTooLong, OutOfRange}
use Rattle.db_cond.specs.Lines.{rows_line}
use Rattle.db_rows.specs.Checking.{cond_columns, fit_columns, has_beyond, sort_of, is_beyond_operand}
use Rattle.db_rows.specs.Meeting.{meeting_keys}
use Rattle.db_rows.specs.Values.{row_values, values_behind_key}
use Rattle.db_state.specs.Columns.{first_unknown, column_place}
use Rattle.db_state.specs.States.{StoreState}
use Rattle.db_state.specs.Effects.{Effect, Does, Refused, refuse, refuse_by, with_found}
use Rattle.db_change.specs.Noting.{lost_changes, noted_on, noted_set}
use Rattle.db_change.specs.Inserting.{is_of_sort, is_too_long, kept_value, number_value, text_value, IsNumberKept, IsTextKept, IsShortValue}

-- ---- the values that are set

abbrev pub assign_columns : List Assign → List (List ℕ)
assign_columns assigns = map (λ (a : Assign). a.column) assigns

-- the key is set: the first column of a table
abbrev pub sets_key : List Column → List Assign → Bool
sets_key [] assigns = false
sets_key (key ∷ columns) assigns = list_any (same_list key.name) (assign_columns assigns)

-- a column is named twice
abbrev pub has_twice : List (List ℕ) → Bool
has_twice [] = false
has_twice (name ∷ names) = list_any (same_list name) names || has_twice names

-- this holds of the sort of the column and the value that is set in it; where the column isn't there, it doesn't
abbrev pub of_sort : (Sort → Operand → Bool) → Option Sort → Operand → Bool
of_sort holds None value = false
of_sort holds (Some sort) value = holds sort value

abbrev pub of_its_sort : (Sort → Operand → Bool) → List Column → Assign → Bool
of_its_sort holds columns a = of_sort holds (sort_of a.column columns) a.value

-- the value that is set in a column, if one is
abbrev pub set_in : List Assign → List ℕ → Option Operand
set_in [] name = None
set_in (a ∷ assigns) name = if same_list name a.column then Some a.value else set_in assigns name

abbrev pub value_after : Option Operand → Value → Value
value_after None value = value
value_after (Some operand) value = kept_value operand

-- the values of a row behind its key, in the order of their columns: those that are set, and of the other columns those that it has
abbrev pub updated_values : List Column → List Assign → List Value → List Value
updated_values [] assigns vs = []
updated_values (c ∷ columns) assigns [] = []
updated_values (c ∷ columns) assigns (v ∷ vs) = value_after (set_in assigns c.name) v ∷ updated_values columns assigns vs

-- the places of the columns that are set
abbrev pub places_set : List Column → List Assign → List ℕ
places_set columns assigns = filter_map (λ (a : Assign). column_place a.column columns) assigns

-- ---- the statement

-- the key is set, or a column twice, or a value or a condition is of another type than its column
abbrev pub is_wrong_update : List Column → List Assign → List Cond → Bool
is_wrong_update columns assigns conds = sets_key columns assigns || has_twice (assign_columns assigns) || not (list_all (of_its_sort is_of_sort columns) assigns) || not (fit_columns columns conds)

-- the checks in their order, of all names first
abbrev pub check_update : List Column → List Assign → List Cond → Effect → Effect
check_update columns assigns conds done =
    refuse_by (first_unknown (assign_columns assigns ++ cond_columns conds) columns) UnknownName
    (refuse (is_wrong_update columns assigns conds) WrongValues
    (refuse (list_any (of_its_sort is_too_long columns) assigns) ValueTooLong
    (refuse (list_any (λ (a : Assign). is_beyond_operand a.value) assigns || has_beyond conds) OutOfRange
    done)))

-- a row of a table with these columns has the values after
abbrev pub row_updated : List ℕ → List Column → List Assign → Tables → ℤ → Tables
row_updated t columns assigns ts r = with_row ts t r (updated_values (others columns) assigns (row_values ts t r))

-- Each of these rows has the values after, and each index that looks at a column that is set is told of it, also where its value is the same as before.
abbrev pub with_updates : StoreState → List ℕ → List Column → List Assign → List ℤ → StoreState
with_updates m t columns assigns rows = record m {
  tables = tables_after (row_updated t columns assigns) m.tables rows;
  indexes = indexes_after kinds (looks_at_any kinds (places_set columns assigns)) (row_updated t columns assigns) m.tables t rows m.indexes;
}

abbrev pub rows_updated : ℕ → List ℕ
rows_updated rows = rows_line (codes "updated.\n") rows

abbrev pub update_rows : StoreState → List ℕ → List Column → List Assign → List ℤ → Effect
update_rows m t columns assigns rows = Does (with_updates m t columns assigns rows) (rows_updated (length rows))

abbrev pub update : StoreState → List ℕ → List Assign → List Cond → Effect
update m t assigns conds =
    with_found (get m.tables t) (UnknownName t) (λ (x : Table). check_update x.columns assigns conds (update_rows m t x.columns assigns (meeting_keys x conds)))

-- ---- what its functions give

-- a value is one that an entry may have
abbrev pub IsShortAssign : Assign → Type 0
IsShortAssign a = IsShortValue a.value

-- a value that is set is a number of 64 bits or a text in UTF-8
abbrev pub IsKeptAssign : Assign → Type 0
IsKeptAssign a = IsNumberKept a.value × IsTextKept a.value

-- where the column has numbers
abbrev pub of_numbers : Sort → Option ℤ → Option (Option ℤ)
of_numbers NumberSort number = Some number
of_numbers (Varchar2 size) number = None
of_numbers Clob number = None

-- of a column of numbers, the number that is set in it, if one is
abbrev pub number_set : List Assign → Column → Option (Option ℤ)
number_set assigns c = of_numbers c.sort (option_and_then number_value (set_in assigns c.name))

-- the numbers of a row, with those that are set in their places
abbrev pub with_set : List (Option ℤ) → List ℤ → List ℤ
with_set [] numbers = []
with_set (o ∷ set) [] = []
with_set (o ∷ set) (n ∷ numbers) = unwrap_or o n ∷ with_set set numbers

abbrev pub numbers_after : List Column → List Assign → List ℤ → List ℤ
numbers_after columns assigns numbers = with_set (filter_map (number_set assigns) columns) numbers

-- the texts that are set in columns of which the first has this place, each with its column
abbrev pub texts_set : ℕ → List Column → List Assign → List (ℕ × List ℕ)
texts_set place [] assigns = []
texts_set place (c ∷ columns) assigns = cons_option (option_map (λ text. (place, text)) (option_and_then text_value (set_in assigns c.name))) (texts_set (suc place) columns assigns)

-- a row with these numbers before gets those and the texts that are set; the columns are those behind the key
abbrev pub value_changes : List ℕ → List Column → List Assign → List ℤ → ℤ → List (Key × Option (List ℕ))
value_changes t columns assigns numbers r = insert_changes t r (numbers_after columns assigns numbers) (texts_set 1 columns assigns)

-- what is needed of the indexes on a table that look at columns that are set
abbrev pub indexes_set : StoreState → List ℕ → List Column → List Assign → List (List ℕ × Noted)
indexes_set m t columns assigns = noted_set (places_set columns assigns) (noted_on m.indexes t)

-- a row that is set, by what it was
abbrev pub changing : List Column → List Assign → ℤ → Option (List Value) → RowChange
changing columns assigns r old = record { row = r; old = old; new = Some (updated_values columns assigns (values_behind_key old)) }

-- the changes of one row: its values, and what the kind of each of these indexes has for it
abbrev pub row_update_changes : Content → StoreState → List ℕ → List Column → List Assign → List (List ℕ × Noted) → ℤ → List (Key × Option (List ℕ))
row_update_changes c m t columns assigns indexes r =
    value_changes t columns assigns (numbers_of (row_values m.tables t r)) r ++ all_noted_changes (at c) (changing columns assigns r (row_at m.tables t r)) indexes

-- the changes of each of these rows
abbrev pub update_changes : Content → StoreState → List ℕ → List Column → List Assign → List (List ℕ × Noted) → List ℤ → List (Key × Option (List ℕ))
update_changes c m t columns assigns indexes rows = each (λ r. row_update_changes c m t columns assigns indexes r) rows

-- and first the indexes that are tidy are so no more
abbrev pub all_update_changes : Content → StoreState → List ℕ → List Column → List Assign → List (List ℕ × Noted) → List ℤ → List (Key × Option (List ℕ))
all_update_changes c m t columns assigns indexes rows = lost_changes c m indexes rows ++ update_changes c m t columns assigns indexes rows

-- The changes tell these indexes of a row of a table with these columns.
abbrev pub TellsOfRow : Content → Table → List Column → List Assign → List TableIndex → ℤ → List (List ℕ × Option (List ℕ)) → Type 0
TellsOfRow c x columns assigns indexes r notes = notes ≡ spell (all_noted_changes (at c) (changing (others columns) assigns r (get x.rows r)) (noted_indexes indexes))

-- The batch updates this row of a table with these columns, and tells these indexes of it.
abbrev pub UpdatesRow : Content → StoreState → List ℕ → List Column → List Assign → List TableIndex → ℤ → List (List ℕ × Option (List ℕ)) → Type 0
UpdatesRow c m t columns assigns indexes r batch = batch ≡ spell (row_update_changes c m t (others columns) assigns (noted_indexes indexes) r)

-- The same of each of these rows.
abbrev pub UpdatesRows : Content → StoreState → List ℕ → List Column → List Assign → List TableIndex → List ℤ → List (List ℕ × Option (List ℕ)) → Type 0
UpdatesRows c m t columns assigns indexes rows batch = batch ≡ spell (update_changes c m t (others columns) assigns (noted_indexes indexes) rows)

-- The batch updates these rows of a table with these columns, in each index that looks at a column that is set.
abbrev pub UpdatesTable : Content → StoreState → List ℕ → List Column → List Assign → List ℤ → List (List ℕ × Option (List ℕ)) → Type 0
UpdatesTable c m t columns assigns rows batch = batch ≡ spell (all_update_changes c m t (others columns) assigns (indexes_set m t columns assigns) rows)

-- computed examples
abbrev set_price : Operand → Assign
set_price value = record { column = codes "price"; value = value }

named_twice : has_twice (codes "price" ∷ codes "body" ∷ codes "price" ∷ []) ≡ true
named_twice = refl

nothing_to_update : (m : StoreState) (t : List ℕ) (columns : List Column) (assigns : List Assign) → with_updates m t columns assigns [] ≡ m
nothing_to_update m t columns assigns = refl

empty_batch : (c : Content) (m : StoreState) (t : List ℕ) (columns : List Column) (assigns : List Assign) → UpdatesTable c m t columns assigns [] []
empty_batch c m t columns assigns = refl

-- of a text and two numbers behind the key, the first number and no text is set
abbrev priced : List Column
priced = record { name = codes "body"; sort = Clob } ∷ record { name = codes "price"; sort = NumberSort } ∷ record { name = codes "stock"; sort = NumberSort } ∷ []

its_numbers : numbers_after priced (set_price (Number (Fits (pos 9))) ∷ []) (pos 3 ∷ pos 4 ∷ []) ≡ pos 9 ∷ pos 4 ∷ []
its_numbers = refl

no_text_set : texts_set 1 priced (set_price (Number (Fits (pos 9))) ∷ []) ≡ []
no_text_set = refl

its_values : updated_values priced (set_price (Number (Fits (pos 9))) ∷ []) (TextValue (codes "fox") ∷ NumberValue (pos 3) ∷ NumberValue (pos 4) ∷ []) ≡ TextValue (codes "fox") ∷ NumberValue (pos 9) ∷ NumberValue (pos 4) ∷ []
its_values = refl

priced_at_nine : changing priced (set_price (Number (Fits (pos 9))) ∷ []) (pos 7) (Some (TextValue (codes "fox") ∷ NumberValue (pos 3) ∷ NumberValue (pos 4) ∷ []))
    ≡ record { row = pos 7; old = Some (TextValue (codes "fox") ∷ NumberValue (pos 3) ∷ NumberValue (pos 4) ∷ []); new = Some (TextValue (codes "fox") ∷ NumberValue (pos 9) ∷ NumberValue (pos 4) ∷ []) }
priced_at_nine = refl

-- the checks of a table of id NUMBER PRIMARY KEY, title VARCHAR2(3), price NUMBER
abbrev titled : List Column
titled = record { name = codes "id"; sort = NumberSort } ∷ record { name = codes "title"; sort = Varchar2 3 } ∷ record { name = codes "price"; sort = NumberSort } ∷ []

abbrev set_title : Operand → Assign
set_title value = record { column = codes "title"; value = value }

the_title : places_set titled (set_title (Text (codes "fox")) ∷ []) ≡ 1 ∷ []
the_title = refl

unknown_and_wrong : (done : Effect)
    → check_update titled (set_price (Text (codes "nine")) ∷ record { column = codes "nope"; value = Number Beyond } ∷ []) [] done ≡ Refused (UnknownName (codes "nope"))
unknown_and_wrong done = refl

the_key_and_too_long : (done : Effect) → check_update titled (set_title (Text (codes "four")) ∷ record { column = codes "id"; value = Number (Fits (pos 2)) } ∷ []) [] done ≡ Refused WrongValues
the_key_and_too_long done = refl

twice_and_beyond : (done : Effect) → check_update titled (set_price (Number Beyond) ∷ set_price (Number Beyond) ∷ []) [] done ≡ Refused WrongValues
twice_and_beyond done = refl

too_long_and_beyond : (done : Effect) → check_update titled (set_price (Number Beyond) ∷ set_title (Text (codes "four")) ∷ []) [] done ≡ Refused ValueTooLong
too_long_and_beyond done = refl

beyond : (done : Effect) → check_update titled (set_price (Number Beyond) ∷ []) [] done ≡ Refused OutOfRange
beyond done = refl

a_good_update : (done : Effect) → check_update titled (set_price (Number (Fits (pos 9))) ∷ set_title (Text (codes "fox")) ∷ []) [] done ≡ done
a_good_update done = refl
