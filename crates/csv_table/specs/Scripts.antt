-- The statements of a table, and that a script is read as them.
use Rattle.std.specs.Prelude.{ℕ, ◌≡◌, ◌≤◌, true, false, ⊤, pos, negsuc, List, [], ◌∷◌, map, length, codes, Option, None, IsUtf8, refl}
use Rattle.std.specs.List.{AllByRecursion}
use Rattle.std.specs.Str.{chars}
use Rattle.std.specs.Fmt.{digits}
use lib.Utf8.{encode}
use Rattle.st_cut.specs.Cut.{Cuts}
use Rattle.st_parse.specs.declared.statements.Whole.TheVariants.{Fits}
use Rattle.st_parse.specs.declared.statements.Operand.{Operand}
use Rattle.st_parse.specs.declared.statements.Operand.TheVariants.{Text as TextValue, Number as NumberValue}
use Rattle.st_parse.specs.declared.statements.SortText.{SortText}
use Rattle.st_parse.specs.declared.statements.SortText.TheVariants.{Number as NumberSort, Varchar2, Clob}
use Rattle.st_parse.specs.declared.statements.ColumnText.{ColumnText}
use Rattle.st_parse.specs.declared.statements.Statement.{Statement}
use Rattle.st_parse.specs.declared.statements.Statement.TheVariants.{CreateTable, Insert}
use Rattle.st_parse.specs.Grammar.{read, Found}
use Rattle.csv_table.specs.declared.tables.Sort.{Sort}
use Rattle.csv_table.specs.declared.tables.Sort.TheVariants.{Number, Text, Long}
use Rattle.csv_table.specs.declared.tables.Column.{Column}
use Rattle.csv_table.specs.declared.tables.Row.{Row}
use Rattle.csv_table.specs.declared.tables.Table.{Table}
use Rattle.csv_table.specs.Tables.{IsTableOf}
use Rattle.csv_table.specs.Wholes.{whole}
use Rattle.csv_table.specs.Spelling.{create_text, insert_text, lamps, script_text}

-- how many bytes a statement has at most
abbrev pub statement_limit : ℕ
statement_limit = 65536

-- ---- the statements of a table

abbrev pub sort_read : Sort → SortText
sort_read Number = NumberSort
sort_read (Text n) = Varchar2 (Fits (pos n))
sort_read Long = Clob

abbrev pub column_read : Column → ColumnText
column_read c = record { name = c.name; sort = sort_read c.sort; primary = false }

abbrev pub key_read : List ℕ → ColumnText
key_read name = record { name = name; sort = NumberSort; primary = true }

abbrev pub operand : Sort → List ℕ → Operand
operand Number field = NumberValue (whole field)
operand (Text n) field = TextValue field
operand Long field = TextValue field

-- the values of a row, each of its column
abbrev pub operands : List Column → List (List ℕ) → List Operand
operands [] fields = []
operands (c ∷ cs) [] = []
operands (c ∷ cs) (f ∷ fs) = operand c.sort f ∷ operands cs fs

abbrev pub creates : Table → Statement
creates t = CreateTable t.name (key_read t.key ∷ map column_read t.columns)

abbrev pub inserts : List ℕ → List Column → Row → Statement
inserts name columns row = Insert name None (NumberValue (whole row.key) ∷ operands columns row.values)

abbrev pub statements : Table → List Statement
statements t = creates t ∷ map (inserts t.name t.columns) t.rows

-- ---- a script that is read as them

-- the text is this statement, and one that a store takes
pub record IsStatementText (text : List ℕ) (statement : Statement) : Type 0 where
  pub utf8 : IsUtf8 text
  pub short : length text ≤ statement_limit
  pub read : read (chars text) ≡ Found statement

-- each text is its statement
abbrev pub AreStatementTexts : List (List ℕ) → List Statement → Type 0
AreStatementTexts [] [] = ⊤
AreStatementTexts [] (s ∷ ss) = ⊥
AreStatementTexts (t ∷ ts) [] = ⊥
AreStatementTexts (t ∷ ts) (s ∷ ss) = IsStatementText t s × AreStatementTexts ts ss

-- the script is cut into texts, of which each is its statement, and nothing follows the last one
pub record IsScriptOf (script : List ℕ) (ss : List Statement) : Type 0 where
  pub texts : List (List ℕ)
  pub cut : Cuts true script texts []
  pub read : AreStatementTexts texts ss

-- the script makes the table that the CSV text is
abbrev pub IsScriptOfText : List ℕ → List ℕ → Option (List ℕ) → List ℕ → Type 0
IsScriptOfText text name key script = (t : Table) × IsTableOf text name key t × IsScriptOf script (statements t)

-- no statement of the table is too long
pub record IsShort (t : Table) : Type 0 where
  pub create : length (create_text t) ≤ statement_limit
  pub inserts : AllByRecursion (λ r. length (insert_text t.name t.columns r) ≤ statement_limit) t.rows

-- ---- computed examples

lamp_statements : statements lamps
    ≡ CreateTable (codes "lamps")
    (record { name = codes "id"; sort = NumberSort; primary = true }
    ∷ record { name = codes "title"; sort = Varchar2 (Fits (pos 9)); primary = false }
    ∷ record { name = codes "price"; sort = NumberSort; primary = false } ∷ [])
    ∷ Insert (codes "lamps") None (NumberValue (Fits (pos 7)) ∷ TextValue (codes "it's red") ∷ NumberValue (Fits (negsuc 4)) ∷ []) ∷ []
lamp_statements = refl

-- the script of these lamps, and that it is read as their statements
lamps_cut : Cuts true (script_text lamps) (codes "CREATE TABLE lamps (id NUMBER PRIMARY KEY, title VARCHAR2(9), price NUMBER)" ∷ codes "INSERT INTO lamps VALUES (7, 'it''s red', -5)" ∷ []) []
unfolding digits
lamps_cut = (_, refl, (_, refl, (refl, refl)))

lamp_read : read (codes "INSERT INTO lamps VALUES (7, 'it''s red', -5)")
    ≡ Found (Insert (codes "lamps") None (NumberValue (Fits (pos 7)) ∷ TextValue (codes "it's red") ∷ NumberValue (Fits (negsuc 4)) ∷ []))
unfolding encode
lamp_read = refl
