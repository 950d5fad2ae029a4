-- The entries that spell the tables.
use Rattle.std.specs.Prelude.{ℕ, ℤ, suc, ◌≡◌, ◌<◌, List, [], ◌∷◌, ◌++◌, length, map, Option, codes, refl, pos, Some, None}
use Rattle.std.specs.Option.{option_map, option_and_then}
use Rattle.std.specs.List.{flat_map}
use Rattle.std.specs.Int.{to_be_bytes, w16}
use Rattle.std.specs.FinMap.{get}
use Rattle.ct_bytes.specs.Varints.{varint, text_bytes}
use Rattle.ct_bytes.specs.RowKeys.{row_bytes}
use Rattle.ct_entry.specs.declared.kinds.Kind.TheVariants as kind
use Rattle.ct_entry.specs.Keys.{Key, key, row_part, text_part, IsRow}
use Rattle.ct_entry.specs.Changes.{put_value, drop_key, spell}
use Rattle.ct_entry.specs.Removals.{owned_removals, removal_looks, SameOwned}
use Rattle.ct_keep.specs.Content.{Content}
use Rattle.ct_keep.specs.KeeperViews.{Counts}
use Rattle.ct_keep.specs.Looks.{plus}
use Rattle.tb_table.specs.declared.columns.Sort.{Sort}
use Rattle.tb_table.specs.declared.columns.Sort.TheVariants.{Number, Varchar2, Clob}
use Rattle.tb_table.specs.declared.columns.Column.{Column}
use Rattle.tb_table.specs.Tables.{Table, Tables, row_at, numbers_of, text_in_column, texts_of, docs_columns}
use Rattle.ct_base.specs.declared.lists.Value.TheVariants.{Number as NumberValue, Text}

-- the byte of a sort, and its size, which is 0 but for VARCHAR2
abbrev pub sort_code : Sort → ℕ
sort_code Number = 1
sort_code (Varchar2 size) = 2
sort_code Clob = 3

abbrev pub sort_size : Sort → ℕ
sort_size Number = 0
sort_size (Varchar2 size) = size
sort_size Clob = 0

-- a column: its name as a text, the byte of its sort, and its size in two bytes, the higher first
abbrev pub column_bytes : Column → List ℕ
column_bytes c = text_bytes c.name ++ sort_code c.sort ∷ to_be_bytes w16 (sort_size c.sort)

-- columns: how many, as a varint, and each in turn
abbrev pub columns_bytes : List Column → List ℕ
columns_bytes cs = varint (length cs) ++ flat_map column_bytes cs

-- the numbers of a row, eight bytes each
abbrev pub row_numbers_bytes : List ℤ → List ℕ
row_numbers_bytes zs = flat_map row_bytes zs

-- the key under which the numbers of a row stand
abbrev pub numbers_key : List ℕ → ℤ → Key
numbers_key t r = key kind.RowNumbers t (row_part r)

-- The entries of the kinds Tables, RowNumbers and RowTexts spell the tables.
pub record TablesStand (f : Key → Option (List ℕ)) (ts : Tables) : Type 0 where
  pub tables : (t : List ℕ) → f (key kind.Tables t []) ≡ option_map (λ (x : Table). columns_bytes x.columns) (get ts t)
  pub numbers : (t : List ℕ) (r : ℤ) → IsRow r → f (key kind.RowNumbers t (row_part r)) ≡ option_map (λ vs. row_numbers_bytes (numbers_of vs)) (row_at ts t r)
  pub texts : (t : List ℕ) (c : ℕ) (r : ℤ) → c < 256 → IsRow r → f (key kind.RowTexts t (text_part c r)) ≡ option_and_then (λ vs. text_in_column vs c) (row_at ts t r)

-- The second view has of a table's entries what the first has.
pub record SameTable (t : List ℕ) (f g : Key → Option (List ℕ)) : Type 0 where
  pub table : SameOwned kind.Tables t f g
  pub numbers : SameOwned kind.RowNumbers t f g
  pub texts : SameOwned kind.RowTexts t f g

-- ---- what calls put into a batch

abbrev pub table_changes : List ℕ → List Column → List (Key × Option (List ℕ))
table_changes t columns = put_value (key kind.Tables t []) (columns_bytes columns) ∷ []

-- a change for each text, by its column
abbrev pub row_text_changes : List ℕ → ℤ → List (ℕ × List ℕ) → List (Key × Option (List ℕ))
row_text_changes t r texts = map (λ (x : ℕ × List ℕ). put_value (key kind.RowTexts t (text_part x.0 r)) x.1) texts

abbrev pub insert_changes : List ℕ → ℤ → List ℤ → List (ℕ × List ℕ) → List (Key × Option (List ℕ))
insert_changes t r numbers texts = put_value (key kind.RowNumbers t (row_part r)) (row_numbers_bytes numbers) ∷ row_text_changes t r texts

-- the place of a column, if it has texts
abbrev pub text_place : ℕ → Sort → List ℕ
text_place place Number = []
text_place place (Varchar2 size) = place ∷ []
text_place place Clob = place ∷ []

-- the places of the columns that have texts, where the first column stands in this place
abbrev pub text_places_from : ℕ → List Column → List ℕ
text_places_from place [] = []
text_places_from place (c ∷ cs) = text_place place c.sort ++ text_places_from (suc place) cs

abbrev pub text_places : List Column → List ℕ
text_places cs = text_places_from 0 cs

-- a change for the text of each of these columns, that it is to go
abbrev pub drop_texts : List ℕ → ℤ → List ℕ → List (Key × Option (List ℕ))
drop_texts t r places = map (λ place. drop_key (key kind.RowTexts t (text_part place r))) places

-- the removal of a row: of its numbers, and of the text of each column that has texts
abbrev pub delete_changes : List ℕ → List Column → ℤ → List (Key × Option (List ℕ))
delete_changes t columns r = drop_key (numbers_key t r) ∷ drop_texts t r (text_places columns)

-- the removal of a table: of its own entry, and of the numbers and the texts of all its rows
abbrev pub remove_changes : List ℕ → Content → List (Key × Option (List ℕ))
remove_changes t m = owned_removals kind.Tables t m ++ owned_removals kind.RowNumbers t m ++ owned_removals kind.RowTexts t m

-- what its look-ups add
abbrev pub remove_looks : List ℕ → Content → Counts
remove_looks t m = plus (plus (removal_looks kind.Tables t m) (removal_looks kind.RowNumbers t m)) (removal_looks kind.RowTexts t m)

-- computed examples

-- the columns of a table (id NUMBER PRIMARY KEY, title VARCHAR2(100))
two_columns : columns_bytes (record { name = codes "id"; sort = Number } ∷ record { name = codes "title"; sort = Varchar2 100 } ∷ [])
    ≡ 2 ∷ (2 ∷ codes "id" ++ 1 ∷ 0 ∷ 0 ∷ []) ++ (5 ∷ codes "title" ++ 2 ∷ 0 ∷ 100 ∷ [])
unfolding varint
two_columns = refl

-- the changes of the row 1 of a table `docs` with a text and a number after the key
a_row : spell (insert_changes (codes "docs") (pos 1) (numbers_of (Text (codes "quick fox quick") ∷ NumberValue (pos 0) ∷ [])) (texts_of (Text (codes "quick fox quick") ∷ NumberValue (pos 0) ∷ [])))
    ≡ (0x02 ∷ 4 ∷ codes "docs" ++ 0x80 ∷ 0 ∷ 0 ∷ 0 ∷ 0 ∷ 0 ∷ 0 ∷ 1 ∷ [], Some (0x80 ∷ 0 ∷ 0 ∷ 0 ∷ 0 ∷ 0 ∷ 0 ∷ 0 ∷ []))
    ∷ (0x03 ∷ 4 ∷ codes "docs" ++ 1 ∷ 0x80 ∷ 0 ∷ 0 ∷ 0 ∷ 0 ∷ 0 ∷ 0 ∷ 1 ∷ [], Some (codes "quick fox quick")) ∷ []
unfolding row_bytes
a_row = refl

-- a row without numbers and texts has an entry all the same
a_bare_row : spell (insert_changes (codes "t") (pos 7) [] []) ≡ (0x02 ∷ 1 ∷ 0x74 ∷ 0x80 ∷ 0 ∷ 0 ∷ 0 ∷ 0 ∷ 0 ∷ 0 ∷ 7 ∷ [], Some []) ∷ []
unfolding row_bytes
a_bare_row = refl

-- the columns `id`, `body` and `price` of the table `docs`, of which the second has texts
the_body : text_places docs_columns ≡ 1 ∷ []
the_body = refl

a_row_removed : spell (delete_changes (codes "docs") docs_columns (pos 1))
    ≡ (0x02 ∷ 4 ∷ codes "docs" ++ 0x80 ∷ 0 ∷ 0 ∷ 0 ∷ 0 ∷ 0 ∷ 0 ∷ 1 ∷ [], None)
    ∷ (0x03 ∷ 4 ∷ codes "docs" ++ 1 ∷ 0x80 ∷ 0 ∷ 0 ∷ 0 ∷ 0 ∷ 0 ∷ 0 ∷ 1 ∷ [], None) ∷ []
unfolding row_bytes
a_row_removed = refl
