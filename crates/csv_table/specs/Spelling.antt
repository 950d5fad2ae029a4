-- How the statements of a table are written. Bytes: a quote is 39, a blank 32.
use Rattle.std.specs.Prelude.{ℕ, ◌≡◌, List, [], ◌∷◌, ◌++◌, map, codes, refl}
use Rattle.std.specs.List.{flat_map}
use Rattle.std.specs.Fmt.{decimal, digits}
use Rattle.st_parse.specs.Writing.{quoted}
use Rattle.csv_table.specs.declared.tables.Sort.{Sort}
use Rattle.csv_table.specs.declared.tables.Sort.TheVariants.{Number, Text, Long}
use Rattle.csv_table.specs.declared.tables.Column.{Column}
use Rattle.csv_table.specs.declared.tables.Row.{Row}
use Rattle.csv_table.specs.declared.tables.Table.{Table}

abbrev pub sort_text : Sort → List ℕ
sort_text Number = codes "NUMBER"
sort_text (Text n) = codes "VARCHAR2(" ++ (decimal n ++ codes ")")
sort_text Long = codes "CLOB"

abbrev pub column_text : Column → List ℕ
column_text c = c.name ++ 32 ∷ sort_text c.sort

-- a value of a column: a number as it stands, a text in quotes with each quote twice
abbrev pub value_text : Sort → List ℕ → List ℕ
value_text Number field = field
value_text (Text n) field = 39 ∷ quoted field
value_text Long field = 39 ∷ quoted field

-- the values of a row, each of its column
abbrev pub value_texts : List Column → List (List ℕ) → List (List ℕ)
value_texts [] fields = []
value_texts (c ∷ cs) [] = []
value_texts (c ∷ cs) (f ∷ fs) = value_text c.sort f ∷ value_texts cs fs

-- further items of a list in parentheses, each behind a comma, and the end of the list
abbrev pub list_end : List (List ℕ) → List ℕ
list_end [] = codes ")"
list_end (item ∷ items) = codes ", " ++ (item ++ list_end items)

abbrev pub create_text : Table → List ℕ
create_text t = codes "CREATE TABLE " ++ (t.name ++ (codes " (" ++ (t.key ++ (codes " NUMBER PRIMARY KEY" ++ list_end (map column_text t.columns)))))

abbrev pub insert_text : List ℕ → List Column → Row → List ℕ
insert_text name columns row = codes "INSERT INTO " ++ (name ++ (codes " VALUES (" ++ (row.key ++ list_end (value_texts columns row.values))))

-- a statement with its end
abbrev pub ended : List ℕ → List ℕ
ended statement = statement ++ codes ";\n"

abbrev pub script_text : Table → List ℕ
script_text t = ended (create_text t) ++ flat_map (λ r. ended (insert_text t.name t.columns r)) t.rows

-- computed examples
abbrev pub lamps : Table
lamps = record {
  name = codes "lamps";
  key = codes "id";
  columns = record { name = codes "title"; sort = Text 9 } ∷ record { name = codes "price"; sort = Number } ∷ [];
  rows = record { line = 2; key = codes "7"; values = codes "it's red" ∷ codes "-5" ∷ [] } ∷ [];
}

lamps_made : create_text lamps ≡ codes "CREATE TABLE lamps (id NUMBER PRIMARY KEY, title VARCHAR2(9), price NUMBER)"
unfolding digits
lamps_made = refl

lamp_added : script_text lamps ≡ codes "CREATE TABLE lamps (id NUMBER PRIMARY KEY, title VARCHAR2(9), price NUMBER);\nINSERT INTO lamps VALUES (7, 'it''s red', -5);\n"
unfolding digits
lamp_added = refl
