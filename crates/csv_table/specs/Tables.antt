-- The table that a CSV text is: its columns, their types, and its rows. Texts are lists of bytes.
use Rattle.std.specs.Prelude.{ℕ, ◌≡◌, ◌≤◌, ◌+◌, nat_le, max, not, ◌&&◌, ◌||◌, ℤ, pos, bytes_eq, Bool, true, false, ⊤, List, [], ◌∷◌, ◌++◌, map, take, drop, length, get_or, codes, Option, Some, None, IsUtf8, refl}
use Rattle.std.specs.Bool.{if◌then◌else◌}
use Rattle.std.specs.Char.{to_ascii_lowercase}
use Rattle.std.specs.List.{list_all, list_any, AllByRecursion, IsDistinct}
use Rattle.std.specs.Ordering.{int_eq}
use Rattle.ct_base.specs.Limits.{column_limit, row_limit, text_limit}
use Rattle.ct_base.specs.Names.{IsName}
use Rattle.csv.specs.Reading.{AreRecords, default_config, strip_bom}
use Rattle.csv.specs.declared.parser.State.TheVariants as st
use Rattle.st_cut.specs.Cut.{first_statement}
use Rattle.st_parse.specs.Keywords.{keyword_of}
use Rattle.st_parse.specs.declared.statements.Whole.{Whole}
use Rattle.st_parse.specs.declared.statements.Whole.TheVariants.{Fits, Beyond}
use Rattle.csv_table.specs.declared.tables.Sort.{Sort}
use Rattle.csv_table.specs.declared.tables.Sort.TheVariants.{Number, Text, Long}
use Rattle.csv_table.specs.declared.tables.Column.{Column}
use Rattle.csv_table.specs.declared.tables.Row.{Row}
use Rattle.csv_table.specs.declared.tables.Table.{Table}
use Rattle.csv_table.specs.Wholes.{is_whole, whole}

-- ---- the types of columns

-- how many bytes a VARCHAR2 takes at most
abbrev pub varchar2_limit : ℕ
varchar2_limit = 4000

-- how many bytes the longest text has
abbrev pub longest : List (List ℕ) → ℕ
longest [] = 0
longest (t ∷ ts) = max (length t) (longest ts)

-- The type of texts of at most n bytes. No field has more than a VARCHAR2 takes, so no table of a CSV text has a column of the type Long.
abbrev pub text_sort : ℕ → Sort
text_sort n = if nat_le n varchar2_limit then Text (max n 1) else Long

-- the type of a column with these values
abbrev pub sort_of : List (List ℕ) → Sort
sort_of values = if list_all is_whole values then Number else text_sort (longest values)

-- the values of the rows in the column at this place
abbrev pub values_at : ℕ → List Row → List (List ℕ)
values_at place rows = map (λ r. get_or r.values place []) rows

-- the columns of these names, of which the first stands at this place
abbrev pub columns_from : ℕ → List (List ℕ) → List Row → List Column
columns_from place [] rows = []
columns_from place (name ∷ names) rows = record { name = name; sort = sort_of (values_at place rows) } ∷ columns_from (place + 1) names rows

-- ---- what a script can hold

-- a name of a table or of a column
pub record IsPlainName (name : List ℕ) : Type 0 where
  pub spelt : IsName name
  pub no_keyword : keyword_of name ≡ None

-- a VARCHAR2 takes 1 to 4000 bytes
abbrev pub IsSort : Sort → Type 0
IsSort Number = ⊤
IsSort (Text n) = (1 ≤ n) × (n ≤ varchar2_limit)
IsSort Long = ⊤

pub record IsColumn (column : Column) : Type 0 where
  pub named : IsPlainName column.name
  pub sorted : IsSort column.sort

-- A text is UTF-8, and none of its lines but the last ends in a `;`: a script is cut there, whatever stands around it.
pub record IsText (text : List ℕ) : Type 0 where
  pub utf8 : IsUtf8 text
  pub uncut : first_statement false text ≡ None

abbrev pub IsValue : Sort → List ℕ → Type 0
IsValue Number field = is_whole field ≡ true
IsValue (Text n) field = IsText field
IsValue Long field = IsText field

-- one value for each column
abbrev pub AreValues : List Column → List (List ℕ) → Type 0
AreValues [] [] = ⊤
AreValues [] (f ∷ fs) = ⊥
AreValues (c ∷ cs) [] = ⊥
AreValues (c ∷ cs) (f ∷ fs) = IsValue c.sort f × AreValues cs fs

pub record IsRow (columns : List Column) (row : Row) : Type 0 where
  pub key : is_whole row.key ≡ true
  pub values : AreValues columns row.values

-- each part of the table can be written into a script
pub record IsWritable (t : Table) : Type 0 where
  pub name : IsPlainName t.name
  pub key : IsPlainName t.key
  pub columns : AllByRecursion IsColumn t.columns
  pub rows : AllByRecursion (IsRow t.columns) t.rows

-- ---- the table of a CSV text

-- the names of the views, which no table has
abbrev pub is_view : List ℕ → Bool
is_view name = bytes_eq name (codes "ctx_user_pending") || bytes_eq name (codes "ctx_user_index_errors")

-- a list with one more element at this place
abbrev pub put_at : {X : Type 0} → ℕ → X → List X → List X
put_at place x xs = take place xs ++ x ∷ drop place xs

-- no two names are the same
abbrev pub names_apart : List (List ℕ) → Bool
names_apart [] = true
names_apart (name ∷ names) = not (list_any (bytes_eq name) names) && names_apart names

-- the number of a key
abbrev pub number_in : Whole → ℤ
number_in (Fits n) = n
number_in Beyond = pos 0

abbrev pub key_numbers : List Row → List ℤ
key_numbers rows = map (λ r. number_in (whole r.key)) rows

-- the header's fields in lower case are the names of columns: 1 to 16, no two the same
pub record AreNamesOf (header names : List (List ℕ)) : Type 0 where
  pub lower : map (map to_ascii_lowercase) header ≡ names
  pub plain : AllByRecursion IsPlainName names
  pub some : 1 ≤ length names
  pub few : length names ≤ column_limit
  pub apart : names_apart names ≡ true

-- the name that was asked for is the key's, and without one the key is the first column
abbrev pub IsKeyAt : Option (List ℕ) → ℕ → List (List ℕ) → Type 0
IsKeyAt None place names = place ≡ 0
IsKeyAt (Some key) place names = get_or names place [] ≡ map to_ascii_lowercase key

-- the records of the text are this header and these rows
abbrev pub HasRecords : List ℕ → List (List ℕ) → List (List (List ℕ)) → Type 0
HasRecords text header rows = AreRecords default_config st.StartRecord (strip_bom text) (header ∷ rows)

-- a field of a row: UTF-8 of at most 4000 bytes that a script can hold
pub record IsField (text : List ℕ) : Type 0 where
  pub held : IsText text
  pub short : length text ≤ text_limit

-- a row with so many values beside its key
pub record IsFullRow (count : ℕ) (row : Row) : Type 0 where
  pub values : AllByRecursion IsField row.values
  pub full : length row.values ≡ count
  pub key : is_whole row.key ≡ true

-- The CSV text has this header and these rows, with the key at `place`; `names` are all the columns. The rows' keys differ.
pub record IsTableOf (text name : List ℕ) (key : Option (List ℕ)) (t : Table) : Type 0 where
  pub named : map to_ascii_lowercase name ≡ t.name
  pub no_view : is_view t.name ≡ false
  pub header : List (List ℕ)
  pub names : List (List ℕ)
  pub place : ℕ
  pub records : HasRecords text header (map (λ r. put_at place r.key r.values) t.rows)
  pub columns_named : AreNamesOf header (put_at place t.key names)
  pub within : place ≤ length names
  pub key_at : IsKeyAt key place (put_at place t.key names)
  pub columns : t.columns ≡ columns_from 0 names t.rows
  pub rows : AllByRecursion (IsFullRow (length names)) t.rows
  pub few : length t.rows ≤ row_limit
  pub apart : IsDistinct int_eq (key_numbers t.rows)

-- ---- computed examples

three_prices : sort_of (codes "7" ∷ codes "-5" ∷ codes "120" ∷ []) ≡ Number
three_prices = refl

one_is_text : sort_of (codes "7" ∷ codes "5.50" ∷ []) ≡ Text 4
one_is_text = refl

all_empty : sort_of ([] ∷ [] ∷ []) ≡ Text 1
all_empty = refl

two_columns : columns_from 0 (codes "title" ∷ codes "price" ∷ []) (record { line = 2; key = codes "1"; values = codes "lamp" ∷ codes "9" ∷ [] } ∷ [])
    ≡ record { name = codes "title"; sort = Text 4 } ∷ record { name = codes "price"; sort = Number } ∷ []
two_columns = refl

-- a `;` within a line and at the end of the text is held, one at the end of a line isn't
held : first_statement false (codes "red; green\nblue;") ≡ None
held = refl

not_held : first_statement false (codes "red; \ngreen") ≡ Some (codes "red", codes "green")
not_held = refl

key_between : put_at 1 (codes "id") (codes "title" ∷ codes "price" ∷ []) ≡ codes "title" ∷ codes "id" ∷ codes "price" ∷ []
key_between = refl

a_view : is_view (codes "ctx_user_pending") ≡ true
a_view = refl

same_twice : names_apart (codes "id" ∷ codes "title" ∷ codes "id" ∷ []) ≡ false
same_twice = refl
