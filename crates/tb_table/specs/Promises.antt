-- What the functions of `src/laws.rt` promise of all tables.
use Rattle.std.specs.Prelude.{ℕ, ℤ, pos, ◌≡◌, ◌<◌, ◌&&◌, not, List, [], ◌∷◌, length, filter, Option, Some, None, codes, refl}
use Rattle.std.specs.Bool.{if◌then◌else◌}
use Rattle.std.specs.Ordering.{int_eq}
use Rattle.std.specs.FinMap.{get, entries}
use Rattle.ct_base.specs.Names.{IsName}
use Rattle.ct_base.specs.Limits.{row_limit, table_limit}
use Rattle.ct_base.specs.declared.lists.Value.{Value}
use Rattle.ct_bytes.specs.Varints.{varint}
use Rattle.ct_bytes.specs.RowKeys.{row_bytes}
use Rattle.ct_keep.specs.Content.{Content}
use Rattle.ct_entry.specs.declared.kinds.Kind.TheVariants as kind
use Rattle.ct_entry.specs.Keys.{Key, key, at, same_list, text_part, IsRow}
use Rattle.ct_entry.specs.Changes.{view}
use Rattle.tb_table.specs.declared.columns.Sort.TheVariants.{Number as NumberSort, Clob}
use Rattle.tb_table.specs.declared.columns.Column.{Column}
use Rattle.tb_table.specs.Tables.{Table, Tables, row_at, row_keys, numbers_of, texts_of, IsUpdate, with_table, with_row, without_row, without_table}
use Rattle.tb_table.specs.Spelling.{columns_bytes, row_numbers_bytes, TablesStand, SameTable, table_changes, insert_changes, delete_changes, remove_changes}
use Rattle.tb_table.specs.Rules.{FitColumns, AreColumns, others, AreTables}
use Rattle.tb_table.specs.Readings.{AreSpellable, EachFits}

-- no columns have the bytes of others
abbrev pub ColumnsHaveTheirOwnBytes : Type 0
ColumnsHaveTheirOwnBytes = (cs ds : List Column) → AreSpellable cs → AreSpellable ds → columns_bytes cs ≡ columns_bytes ds → cs ≡ ds

-- nor have numbers of 64 bits
abbrev pub NumbersHaveTheirOwnBytes : Type 0
NumbersHaveTheirOwnBytes = (ys zs : List ℤ) → EachFits ys → EachFits zs → row_numbers_bytes ys ≡ row_numbers_bytes zs → ys ≡ zs

-- after CREATE TABLE of a name that is free
abbrev pub NewTablesStand : Type 0
NewTablesStand = (f : Key → Option (List ℕ)) (ts : Tables) (t : List ℕ) (columns : List Column) → get ts t ≡ None → TablesStand f ts → TablesStand (view (table_changes t columns) f) (with_table ts t columns)

-- after INSERT of a row that isn't there into a table that is
abbrev pub NewRowsStand : Type 0
NewRowsStand = (f : Key → Option (List ℕ)) (ts : Tables) (t : List ℕ) (r : ℤ) (vs : List Value) (x : Table) → get ts t ≡ Some x → get x.rows r ≡ None → IsRow r → TablesStand f ts
    → TablesStand (view (insert_changes t r (numbers_of vs) (texts_of vs)) f) (with_row ts t r vs)

-- after UPDATE of a row, with all its numbers and with the texts that are given
abbrev pub UpdatedRowsStand : Type 0
UpdatedRowsStand = (f : Key → Option (List ℕ)) (ts : Tables) (t : List ℕ) (r : ℤ) (old new : List Value) (texts : List (ℕ × List ℕ)) → row_at ts t r ≡ Some old → IsRow r → IsUpdate texts old new → TablesStand f ts
    → TablesStand (view (insert_changes t r (numbers_of new) texts) f) (with_row ts t r new)

-- after DELETE of a row, whether it is there or not
abbrev pub DeletedRowsStand : Type 0
DeletedRowsStand = (f : Key → Option (List ℕ)) (ts : Tables) (t : List ℕ) (r : ℤ) (x : Table) → get ts t ≡ Some x → AreTables ts → IsRow r → TablesStand f ts → TablesStand (view (delete_changes t x.columns r) f) (without_row ts t r)

-- after DROP TABLE, where the view still has of the table's entries what the content has
abbrev pub RemovedTablesStand : Type 0
RemovedTablesStand = (f : Key → Option (List ℕ)) (ts : Tables) (t : List ℕ) (m : Content) → SameTable t (at m) f → TablesStand f ts → TablesStand (view (remove_changes t m) f) (without_table ts t)

-- a new table, where there is room for one
abbrev pub NewTablesKeepTheRules : Type 0
NewTablesKeepTheRules = (ts : Tables) (t : List ℕ) (columns : List Column) → AreTables ts → IsName t → AreColumns columns → length (entries ts) < table_limit → AreTables (with_table ts t columns)

-- a new row of values that fit, where there is room for one
abbrev pub NewRowsKeepTheRules : Type 0
NewRowsKeepTheRules = (ts : Tables) (t : List ℕ) (r : ℤ) (vs : List Value) (x : Table) → AreTables ts → get ts t ≡ Some x → IsRow r → FitColumns (others x.columns) vs → length (entries x.rows) < row_limit → AreTables (with_row ts t r vs)

-- an update to values that fit
abbrev pub UpdatedRowsKeepTheRules : Type 0
UpdatedRowsKeepTheRules = (ts : Tables) (t : List ℕ) (r : ℤ) (old new : List Value) (x : Table) → AreTables ts → get ts t ≡ Some x → get x.rows r ≡ Some old → FitColumns (others x.columns) new → AreTables (with_row ts t r new)

-- a row less, and a table less
abbrev pub DeletedRowsKeepTheRules : Type 0
DeletedRowsKeepTheRules = (ts : Tables) (t : List ℕ) (r : ℤ) → AreTables ts → AreTables (without_row ts t r)

abbrev pub RemovedTablesKeepTheRules : Type 0
RemovedTablesKeepTheRules = (ts : Tables) (t : List ℕ) → AreTables ts → AreTables (without_table ts t)

-- after an update the row has the new values, and every other row those that it had
abbrev pub UpdatedRowsAreThere : Type 0
UpdatedRowsAreThere = (ts : Tables) (t : List ℕ) (r : ℤ) (old new : List Value) → row_at ts t r ≡ Some old → (u : List ℕ) (s : ℤ) → row_at (with_row ts t r new) u s ≡ (if same_list u t && int_eq s r then Some new else row_at ts u s)

-- after a removal the row isn't there, and every other row has the values that it had
abbrev pub DeletedRowsAreGone : Type 0
DeletedRowsAreGone = (ts : Tables) (t : List ℕ) (r : ℤ) (u : List ℕ) (s : ℤ) → row_at (without_row ts t r) u s ≡ (if same_list u t && int_eq s r then None else row_at ts u s)

-- the table's keys are those of before but this one
abbrev pub DeletedKeysAreGone : Type 0
DeletedKeysAreGone = (ts : Tables) (t : List ℕ) (r : ℤ) → row_keys (without_row ts t r) t ≡ filter (λ s. not (int_eq r s)) (row_keys ts t)

-- a table that was removed isn't there, and every other table is as it was
abbrev pub RemovedTablesAreGone : Type 0
RemovedTablesAreGone = (ts : Tables) (t u : List ℕ) → get (without_table ts t) u ≡ (if same_list u t then None else get ts u)

-- computed examples: what a view has after the changes of a new table `t` with the column `id` alone, under its key and that of another table
abbrev one_column : List Column
one_column = record { name = codes "id"; sort = NumberSort } ∷ []

its_entry : (f : Key → Option (List ℕ)) → view (table_changes (codes "t") one_column) f (key kind.Tables (codes "t") []) ≡ Some (1 ∷ 2 ∷ 0x69 ∷ 0x64 ∷ 1 ∷ 0 ∷ 0 ∷ [])
unfolding varint
its_entry f = refl

of_another : (f : Key → Option (List ℕ)) → view (table_changes (codes "t") one_column) f (key kind.Tables (codes "u") []) ≡ f (key kind.Tables (codes "u") [])
of_another f = refl

-- what a view has at the keys of a row 7 after its removal, and at those of a row 8
abbrev two_columns : List Column
two_columns = record { name = codes "id"; sort = NumberSort } ∷ record { name = codes "w"; sort = Clob } ∷ []

no_text_left : (f : Key → Option (List ℕ)) → view (delete_changes (codes "t") two_columns (pos 7)) f (key kind.RowTexts (codes "t") (text_part 1 (pos 7))) ≡ None
unfolding row_bytes
no_text_left f = refl

another_row_left : (f : Key → Option (List ℕ)) → view (delete_changes (codes "t") two_columns (pos 7)) f (key kind.RowTexts (codes "t") (text_part 1 (pos 8))) ≡ f (key kind.RowTexts (codes "t") (text_part 1 (pos 8)))
unfolding row_bytes
another_row_left f = refl

-- a text that isn't given stays
text_left : (f : Key → Option (List ℕ)) → view (insert_changes (codes "t") (pos 7) [] ((1, codes "fox") ∷ [])) f (key kind.RowTexts (codes "t") (text_part 2 (pos 7))) ≡ f (key kind.RowTexts (codes "t") (text_part 2 (pos 7)))
unfolding row_bytes
text_left f = refl
