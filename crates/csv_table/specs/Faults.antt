-- Why a CSV text has no script: what is wrong with it, for each refusal. Memory may be wanting at any time, whatever the text is.
-- A field is counted from 1. Lines only help to find a record, and nothing is said of them.
use Rattle.std.specs.Prelude.{ℕ, ◌≡◌, ◌<◌, ◌+◌, ◌⊎◌, ◌&&◌, ◌==◌, ℤ, Bool, true, false, ⊤, List, [], ◌∷◌, map, length, get_or, codes, not, Option, Some, None, is_none, bytes_eq, IsUtf8, refl}
use Rattle.std.proofs.Common.{arith}
use Rattle.std.specs.Char.{to_ascii_lowercase}
use Rattle.std.specs.List.{list_any, IsDistinct}
use Rattle.std.specs.Ordering.{int_eq}
use Rattle.ct_base.specs.Limits.{column_limit, row_limit, text_limit}
use Rattle.ct_base.specs.Names.{is_spelling}
use Rattle.csv.specs.Reading.{AreRecords, default_config, strip_bom}
use Rattle.csv.specs.declared.parser.State.TheVariants as st
use Rattle.st_cut.specs.Cut.{first_statement}
use Rattle.st_parse.specs.Keywords.{keyword_of}
use Rattle.csv_table.specs.declared.refusals.Refusal.{Refusal}
use Rattle.csv_table.specs.declared.refusals.Refusal.TheVariants.{TableName, NoColumn, TooManyColumns, ColumnName, TwoColumns, UnknownKey, TooManyRows, FieldCount, NotUtf8, TooLong, CutText, NoKey, KeyTwice, StatementTooLong, Memory}
use Rattle.csv_table.specs.declared.tables.Column.{Column}
use Rattle.csv_table.specs.declared.tables.Row.{Row}
use Rattle.csv_table.specs.declared.tables.Table.{Table}
use Rattle.csv_table.specs.Wholes.{is_whole, whole}
use Rattle.csv_table.specs.Spelling.{create_text, insert_text}
use Rattle.csv_table.specs.Scripts.{statement_limit}
use Rattle.csv_table.specs.Tables.{IsKeyAt, IsTableOf, is_view, names_apart, number_in}

-- one of the elements has P
abbrev pub HasOne : {X : Type 0} → (X → Type 0) → List X → Type 0
HasOne P [] = ⊥
HasOne P (x ∷ xs) = P x ⊎ HasOne P xs

-- the field that is counted so has P
abbrev pub HasField : (List ℕ → Type 0) → ℕ → List (List ℕ) → Type 0
HasField P field fields = (place : ℕ) × (field ≡ place + 1) × (place < length fields) × P (get_or fields place [])

-- a text that is a name in some ASCII case, and no keyword
abbrev pub is_plain_name : List ℕ → Bool
is_plain_name text = is_spelling text && is_none (keyword_of (map to_ascii_lowercase text))

abbrev pub lower_names : List (List ℕ) → List (List ℕ)
lower_names header = map (map to_ascii_lowercase) header

-- a text that may name a table: a plain name, which is no view's
abbrev pub is_table_name : List ℕ → Bool
is_table_name text = is_plain_name text && not (is_view (map to_ascii_lowercase text))

-- ---- the name of the table, and the header

abbrev pub TableNameFault : List ℕ → Refusal → Type 0
TableNameFault name Memory = ⊤
TableNameFault name TableName = is_table_name name ≡ false
TableNameFault name refusal = ⊥

abbrev pub Utf8Fault : List (List ℕ) → Refusal → Type 0
Utf8Fault fields Memory = ⊤
Utf8Fault fields (NotUtf8 line field) = HasField (λ t. ¬ (IsUtf8 t)) field fields
Utf8Fault fields refusal = ⊥

abbrev pub ColumnNameFault : List (List ℕ) → Refusal → Type 0
ColumnNameFault header Memory = ⊤
ColumnNameFault header (ColumnName line field) = HasField (λ t. is_plain_name t ≡ false) field header
ColumnNameFault header refusal = ⊥

abbrev pub ColumnsFault : List (List ℕ) → Refusal → Type 0
ColumnsFault header NoColumn = length header ≡ 0
ColumnsFault header (TooManyColumns line) = column_limit < length header
ColumnsFault header (TwoColumns line) = names_apart (lower_names header) ≡ false
ColumnsFault header refusal = ⊥

abbrev pub HeaderFault : List (List ℕ) → Refusal → Type 0
HeaderFault header refusal = Utf8Fault header refusal ⊎ (ColumnNameFault header refusal ⊎ ColumnsFault header refusal)

-- whether a column has the name that was asked for
abbrev pub is_key_known : Option (List ℕ) → List (List ℕ) → Bool
is_key_known None names = true
is_key_known (Some key) names = is_plain_name key && list_any (bytes_eq (map to_ascii_lowercase key)) names

abbrev pub UnknownFault : Option (List ℕ) → List (List ℕ) → Refusal → Type 0
UnknownFault key names Memory = ⊤
UnknownFault key names UnknownKey = is_key_known key names ≡ false
UnknownFault key names refusal = ⊥

-- ---- the rows

abbrev pub CountFault : ℕ → Refusal → Type 0
CountFault count (TooManyRows line) = row_limit < count
CountFault count refusal = ⊥

-- a record that hasn't as many fields as the header
abbrev pub WidthFault : ℕ → List (List ℕ) → Refusal → Type 0
WidthFault width fields (FieldCount line count wanted) = (count ≡ length fields) × (wanted ≡ width) × ((length fields == width) ≡ false)
WidthFault width fields refusal = ⊥

-- a text that is too long, or that a script can't hold
abbrev pub HeldFault : List (List ℕ) → Refusal → Type 0
HeldFault fields (TooLong line field) = HasField (λ t. text_limit < length t) field fields
HeldFault fields (CutText line field) = HasField (λ t. is_none (first_statement false t) ≡ false) field fields
HeldFault fields refusal = ⊥

-- the key stands at this place, and is no whole number
abbrev pub NoKeyFault : ℕ → List (List ℕ) → Refusal → Type 0
NoKeyFault place fields Memory = ⊤
NoKeyFault place fields (NoKey line field) = (field ≡ place + 1) × (is_whole (get_or fields place []) ≡ false)
NoKeyFault place fields refusal = ⊥

abbrev pub RowFault : ℕ → ℕ → List (List ℕ) → Refusal → Type 0
RowFault width place fields refusal = Utf8Fault fields refusal ⊎ (WidthFault width fields refusal ⊎ (HeldFault fields refusal ⊎ NoKeyFault place fields refusal))

-- two rows have one key
abbrev pub KeysFault : List ℤ → Refusal → Type 0
KeysFault keys Memory = ⊤
KeysFault keys (KeyTwice line first) = ¬ (IsDistinct int_eq keys)
KeysFault keys refusal = ⊥

-- the numbers of the keys, which stand at this place
abbrev pub key_numbers_at : ℕ → List (List (List ℕ)) → List ℤ
key_numbers_at place rows = map (λ fields. number_in (whole (get_or fields place []))) rows

abbrev pub RowsFault : ℕ → ℕ → List (List (List ℕ)) → Refusal → Type 0
RowsFault width place rows refusal = HasOne (λ fields. RowFault width place fields refusal) rows ⊎ KeysFault (key_numbers_at place rows) refusal

-- ---- the whole text

-- The header has a fault, or no column has the key's name, or there are too many rows, or the rows have a fault.
abbrev pub RecordsFault : Option (List ℕ) → List (List ℕ) → List (List (List ℕ)) → Refusal → Type 0
RecordsFault key header rows refusal =
    HeaderFault header refusal
    ⊎ (UnknownFault key (lower_names header) refusal
    ⊎ (CountFault (length rows) refusal
    ⊎ ((place : ℕ) × IsKeyAt key place (lower_names header) × RowsFault (length header) place rows refusal)))

-- the records, of which the first is the header, have a fault; a text without any has no column
abbrev pub FileFault : Option (List ℕ) → List (List (List ℕ)) → Refusal → Type 0
FileFault key [] refusal = refusal ≡ NoColumn
FileFault key (header ∷ rows) refusal = RecordsFault key header rows refusal

-- The name of the table is none, or memory was wanting while the text was read, or its records have a fault.
abbrev pub TableFault : List ℕ → List ℕ → Option (List ℕ) → Refusal → Type 0
TableFault text name key refusal =
    TableNameFault name refusal
    ⊎ ((records : List (List (List ℕ))) × AreRecords default_config st.StartRecord (strip_bom text) records × FileFault key records refusal)

-- ---- the statements

-- a statement of so many bytes is too long
abbrev pub LongFault : ℕ → Refusal → Type 0
LongFault count Memory = ⊤
LongFault count (StatementTooLong line) = statement_limit < count
LongFault count refusal = ⊥

-- the INSERT of a row is too long
abbrev pub InsertFault : List ℕ → List Column → Row → Refusal → Type 0
InsertFault name columns row refusal = LongFault (length (insert_text name columns row)) refusal

-- a statement of the table is too long
abbrev pub StatementFault : Table → Refusal → Type 0
StatementFault t refusal = LongFault (length (create_text t)) refusal ⊎ HasOne (λ r. InsertFault t.name t.columns r refusal) t.rows

-- the text has no table, or it has one that has no script
abbrev pub ScriptFault : List ℕ → List ℕ → Option (List ℕ) → Refusal → Type 0
ScriptFault text name key refusal = TableFault text name key refusal ⊎ ((t : Table) × IsTableOf text name key t × StatementFault t refusal)

-- ---- computed examples

no_name : TableNameFault (codes "2024") TableName
no_name = refl

a_view : TableNameFault (codes "CTX_User_Pending") TableName
a_view = refl

keyword : ColumnNameFault (codes "id" ∷ codes "Select" ∷ []) (ColumnName 1 2)
keyword = (1, refl, omega arith, refl)

one_name : ColumnsFault (codes "Id" ∷ codes "id" ∷ []) (TwoColumns 1)
one_name = refl

unknown : UnknownFault (Some (codes "sku")) (codes "id" ∷ codes "title" ∷ []) UnknownKey
unknown = refl

known : is_key_known (Some (codes "SKU")) (codes "id" ∷ codes "sku" ∷ []) ≡ true
known = refl

too_few : WidthFault 3 (codes "7" ∷ codes "lamp" ∷ []) (FieldCount 2 2 3)
too_few = (refl, refl, refl)

cut_within : HeldFault (codes "7" ∷ codes "red;\ngreen" ∷ []) (CutText 2 2)
cut_within = (1, refl, omega arith, refl)

no_key : NoKeyFault 0 (codes "7a" ∷ codes "lamp" ∷ []) (NoKey 2 1)
no_key = (refl, refl)

same_key : key_numbers_at 0 ((codes "7" ∷ []) ∷ (codes "8" ∷ []) ∷ (codes "7" ∷ []) ∷ []) ≡ number_in (whole (codes "7")) ∷ number_in (whole (codes "8")) ∷ number_in (whole (codes "7")) ∷ []
same_key = refl
