-- What the statements on tables and rows do is the same in states that are alike.
use Rattle.std.proofs.Common.{◌≡◌, ℕ, Bool, List, length, Option, refl}
use Rattle.std.specs.Prelude.{ℤ, ◌==◌, ◌||◌, ◌&&◌, ◌++◌, nat_le, nat_lt, not, is_some}
use Rattle.std.specs.List.{list_any}
use Rattle.std.specs.FinMap.{get, entries}
use Rattle.ct_base.specs.Limits.{row_limit, table_limit, column_limit}
use Rattle.st_parse.specs.declared.statements.Assign.{Assign}
use Rattle.st_parse.specs.declared.statements.ColumnText.{ColumnText}
use Rattle.st_parse.specs.declared.statements.Cond.{Cond}
use Rattle.st_parse.specs.declared.statements.Operand.{Operand}
use Rattle.tb_table.specs.declared.columns.Column.{Column}
use Rattle.tb_table.specs.Tables.{Table, with_row, without_row, without_table}
use Rattle.ix_kinds.specs.Rows.{row_change}
use Rattle.ix_kinds.specs.Statements.{every, indexes_after, indexes_after_row, looks_at_any, tables_after, without_indexes_on}
use Rattle.ix_indexes.specs.Indexes.{kinds}
use Rattle.db_cond.specs.Faults.{ExistsAlready, KeyExists, LimitReached, OutOfRange, UnknownName, ValueTooLong, WrongValues}
use Rattle.db_rows.specs.Checking.{check_conds, cond_columns, fit_columns, has_beyond, is_beyond_operand}
use Rattle.db_rows.specs.Meeting.{meeting_keys}
use Rattle.db_state.specs.Columns.{first_unknown}
use Rattle.db_state.specs.States.{StoreState, is_view}
use Rattle.db_state.specs.Effects.{Effect, Does, refuse, refuse_by, with_found}
use Rattle.db_state.specs.Alike.{DoesSamePlain, plain_state, plain_effect, plain_indexes}
use Rattle.db_state.specs.laws.Alike.{looks_at_any_plain, row-plain, rows-plain, without-plain}
use Rattle.db_state.specs.laws.AlikeChecks.{does_indexes, does_plain, refuse_by_same, refuse_same, with_found_same}
use Rattle.db_change.specs.Creating.{all_sized, create_table, is_key_first, names_differ, table_created, with_new_table}
use Rattle.db_change.specs.Deleting.{delete_from, delete_rows, rows_deleted}
use Rattle.db_change.specs.Dropping.{drop_table, table_dropped, with_table_dropped}
use Rattle.db_change.specs.Inserting.{are_of_sorts, arranged, check_list, check_row_values, covers, has_row, has_too_long, insert_into, insert_row, insert_values, key_in, listed_names, others_kept, row_created, is_too_long, taken_key}
use Rattle.db_change.specs.Updating.{assign_columns, check_update, is_wrong_update, of_its_sort, places_set, row_updated, rows_updated, update, update_rows}

-- ---- CREATE TABLE and DROP TABLE

pub create_table_plain : (t : List ℕ) (columns : List ColumnText) → DoesSamePlain (λ m. create_table m t columns)
create_table_plain t columns m =
    refuse_same (is_some (get m.tables t) || is_view t) (ExistsAlready t) (formed (plain_state m)) (formed m)
    (refuse_same (not (is_key_first columns && names_differ columns)) WrongValues (sized (plain_state m)) (sized m)
    (refuse_same (not (all_sized columns)) OutOfRange (fits (plain_state m)) (fits m)
    (refuse_same (nat_lt column_limit (length columns) || many) LimitReached (made (plain_state m)) (made m)
    (does_plain (with_new_table m t columns) table_created))))
  where
    many : Bool
    many = nat_le table_limit (length (entries m.tables))

    made : StoreState → Effect
    made n = Does (with_new_table n t columns) table_created

    fits : StoreState → Effect
    fits n = refuse (nat_lt column_limit (length columns) || many) LimitReached (made n)

    sized : StoreState → Effect
    sized n = refuse (not (all_sized columns)) OutOfRange (fits n)

    formed : StoreState → Effect
    formed n = refuse (not (is_key_first columns && names_differ columns)) WrongValues (sized n)

pub drop_table_plain : (t : List ℕ) → DoesSamePlain (λ m. drop_table m t)
drop_table_plain t m =
    with_found_same (get m.tables t) (UnknownName t) (λ x. Does (with_table_dropped (plain_state m) t) table_dropped)
    (λ x. Does (with_table_dropped m t) table_dropped)
    (λ x. does_indexes (record m { tables = without_table m.tables t }) (without_indexes_on (plain_indexes m.indexes) t) (without_indexes_on m.indexes t) table_dropped (without-plain m.indexes t))

-- ---- INSERT

insert_row_plain : (m : StoreState) (t : List ℕ) (values : List Operand) (r : ℤ)
    → plain_effect (insert_row (plain_state m) t values r) ≡ plain_effect (insert_row m t values r)
insert_row_plain m t values r =
    does_indexes (record m { tables = with_row m.tables t r (others_kept values) })
    (indexes_after_row kinds (every kinds) t (row_change m.tables (with_row m.tables t r (others_kept values)) t r) (plain_indexes m.indexes))
    (indexes_after_row kinds (every kinds) t (row_change m.tables (with_row m.tables t r (others_kept values)) t r) m.indexes)
    row_created
    (row-plain (every kinds) (λ x. refl) t (row_change m.tables (with_row m.tables t r (others_kept values)) t r) m.indexes)

check_row_same : (taken many : Bool) (columns : List Column) (values : List Operand) (e f : Effect) → plain_effect e ≡ plain_effect f
    → plain_effect (check_row_values taken many columns values e) ≡ plain_effect (check_row_values taken many columns values f)
check_row_same taken many columns values e f same =
    refuse_same (not (are_of_sorts columns values)) WrongValues (free e) (free f)
    (refuse_by_same (taken_key taken (key_in values)) KeyExists (short e) (short f)
    (refuse_same (has_too_long columns values) ValueTooLong (within e) (within f)
    (refuse_same (list_any is_beyond_operand values) OutOfRange (refuse many LimitReached e) (refuse many LimitReached f)
    (refuse_same many LimitReached e f same))))
  where
    within : Effect → Effect
    within done = refuse (list_any is_beyond_operand values) OutOfRange (refuse many LimitReached done)

    short : Effect → Effect
    short done = refuse (has_too_long columns values) ValueTooLong (within done)

    free : Effect → Effect
    free done = refuse_by (taken_key taken (key_in values)) KeyExists (short done)

insert_values_plain : (m : StoreState) (t : List ℕ) (x : Table) (values : List Operand)
    → plain_effect (insert_values (plain_state m) t x values) ≡ plain_effect (insert_values m t x values)
insert_values_plain m t x values =
    check_row_same (has_row x (key_in values)) (nat_le row_limit (length (entries x.rows))) x.columns values (keyed (plain_state m)) (keyed m)
    (with_found_same (key_in values) OutOfRange (insert_row (plain_state m) t values) (insert_row m t values) (insert_row_plain m t values))
  where
    keyed : StoreState → Effect
    keyed n = with_found (key_in values) OutOfRange (insert_row n t values)

pub insert_into_plain : (t : List ℕ) (names : Option (List (List ℕ))) (values : List Operand) → DoesSamePlain (λ m. insert_into m t names values)
insert_into_plain t names values m =
    with_found_same (get m.tables t) (UnknownName t) (into (plain_state m)) (into m)
    (λ x. refuse_by_same (first_unknown (listed_names names) x.columns) UnknownName (listed (plain_state m) x) (listed m x)
    (refuse_same (not (covers names x.columns) || not (length values == length x.columns)) WrongValues
    (insert_values (plain_state m) t x (arranged names x.columns values)) (insert_values m t x (arranged names x.columns values))
    (insert_values_plain m t x (arranged names x.columns values))))
  where
    listed : StoreState → Table → Effect
    listed n x =
        refuse (not (covers names x.columns) || not (length values == length x.columns)) WrongValues (insert_values n t x (arranged names x.columns values))

    into : StoreState → Table → Effect
    into n x = check_list x.columns names values (insert_values n t x (arranged names x.columns values))

-- ---- UPDATE

update_rows_plain : (m : StoreState) (t : List ℕ) (columns : List Column) (assigns : List Assign) (rows : List ℤ)
    → plain_effect (update_rows (plain_state m) t columns assigns rows) ≡ plain_effect (update_rows m t columns assigns rows)
update_rows_plain m t columns assigns rows =
    does_indexes (record m { tables = tables_after (row_updated t columns assigns) m.tables rows })
    (indexes_after kinds (looks_at_any kinds (places_set columns assigns)) (row_updated t columns assigns) m.tables t rows (plain_indexes m.indexes))
    (indexes_after kinds (looks_at_any kinds (places_set columns assigns)) (row_updated t columns assigns) m.tables t rows m.indexes)
    (rows_updated (length rows))
    (rows-plain (looks_at_any kinds (places_set columns assigns)) (looks_at_any_plain (places_set columns assigns)) (row_updated t columns assigns) m.tables t rows m.indexes)

check_update_same : (columns : List Column) (assigns : List Assign) (conds : List Cond) (e f : Effect) → plain_effect e ≡ plain_effect f
    → plain_effect (check_update columns assigns conds e) ≡ plain_effect (check_update columns assigns conds f)
check_update_same columns assigns conds e f same =
    refuse_by_same (first_unknown (assign_columns assigns ++ cond_columns conds) columns) UnknownName (typed e) (typed f)
    (refuse_same (is_wrong_update columns assigns conds) WrongValues (short e) (short f)
    (refuse_same (list_any (of_its_sort is_too_long columns) assigns) ValueTooLong (within e) (within f)
    (refuse_same (list_any (λ (a : Assign). is_beyond_operand a.value) assigns || has_beyond conds) OutOfRange e f same)))
  where
    within : Effect → Effect
    within done = refuse (list_any (λ (a : Assign). is_beyond_operand a.value) assigns || has_beyond conds) OutOfRange done

    short : Effect → Effect
    short done = refuse (list_any (of_its_sort is_too_long columns) assigns) ValueTooLong (within done)

    typed : Effect → Effect
    typed done = refuse (is_wrong_update columns assigns conds) WrongValues (short done)

pub update_plain : (t : List ℕ) (assigns : List Assign) (conds : List Cond) → DoesSamePlain (λ m. update m t assigns conds)
update_plain t assigns conds m =
    with_found_same (get m.tables t) (UnknownName t) (checked (plain_state m)) (checked m)
    (λ x. check_update_same x.columns assigns conds (update_rows (plain_state m) t x.columns assigns (meeting_keys x conds)) (update_rows m t x.columns assigns (meeting_keys x conds))
    (update_rows_plain m t x.columns assigns (meeting_keys x conds)))
  where
    checked : StoreState → Table → Effect
    checked n x = check_update x.columns assigns conds (update_rows n t x.columns assigns (meeting_keys x conds))

-- ---- DELETE

delete_rows_plain : (m : StoreState) (t : List ℕ) (rows : List ℤ) → plain_effect (delete_rows (plain_state m) t rows) ≡ plain_effect (delete_rows m t rows)
delete_rows_plain m t rows =
    does_indexes (record m { tables = tables_after (λ ts r. without_row ts t r) m.tables rows })
    (indexes_after kinds (every kinds) (λ ts r. without_row ts t r) m.tables t rows (plain_indexes m.indexes))
    (indexes_after kinds (every kinds) (λ ts r. without_row ts t r) m.tables t rows m.indexes)
    (rows_deleted (length rows))
    (rows-plain (every kinds) (λ x. refl) (λ ts r. without_row ts t r) m.tables t rows m.indexes)

check_conds_same : (columns : List Column) (conds : List Cond) (e f : Effect) → plain_effect e ≡ plain_effect f
    → plain_effect (check_conds columns conds e) ≡ plain_effect (check_conds columns conds f)
check_conds_same columns conds e f same =
    refuse_by_same (first_unknown (cond_columns conds) columns) UnknownName (typed e) (typed f)
    (refuse_same (not (fit_columns columns conds)) WrongValues (refuse (has_beyond conds) OutOfRange e) (refuse (has_beyond conds) OutOfRange f)
    (refuse_same (has_beyond conds) OutOfRange e f same))
  where
    typed : Effect → Effect
    typed done = refuse (not (fit_columns columns conds)) WrongValues (refuse (has_beyond conds) OutOfRange done)

pub delete_from_plain : (t : List ℕ) (conds : List Cond) → DoesSamePlain (λ m. delete_from m t conds)
delete_from_plain t conds m =
    with_found_same (get m.tables t) (UnknownName t) (checked (plain_state m)) (checked m)
    (λ x. check_conds_same x.columns conds (delete_rows (plain_state m) t (meeting_keys x conds)) (delete_rows m t (meeting_keys x conds)) (delete_rows_plain m t (meeting_keys x conds)))
  where
    checked : StoreState → Table → Effect
    checked n x = check_conds x.columns conds (delete_rows n t (meeting_keys x conds))
