-- INSERT, as it is spelt and as it is read.
use Rattle.std.specs.Prelude.{ℕ, ◌≡◌, List, [], ◌∷◌, codes, Option, Some, None, refl}
use Rattle.st_parse.specs.declared.lexemes.Keyword.TheVariants.{Into as INTO, Values as VALUES}
use Rattle.st_parse.specs.declared.lexemes.Symbol.TheVariants.{Open, Close, Comma}
use Rattle.st_parse.specs.declared.lexemes.Lexeme.{Lexeme}
use Rattle.st_parse.specs.declared.lexemes.Lexeme.TheVariants.{Word, Name, Text, Sign}
use Rattle.st_parse.specs.declared.statements.Operand.{Operand}
use Rattle.st_parse.specs.declared.statements.Operand.TheVariants.{Text as TextValue}
use Rattle.st_parse.specs.declared.statements.Statement.{Statement}
use Rattle.st_parse.specs.declared.statements.Statement.TheVariants.{Insert}
use Rattle.st_parse.specs.Lexemes.{◌>>=◌}
use Rattle.st_parse.specs.Lists.{AreEnclosed, Reader, enclosed, enclosed_last}
use Rattle.st_parse.specs.Values.{operand_at}

abbrev pub IsNamed : List Lexeme → List ℕ → Type 0
IsNamed ls name = ls ≡ Name name ∷ []

-- the columns that the values are for, or nothing
abbrev pub AreColumnNames : List Lexeme → Option (List (List ℕ)) → Type 0
AreColumnNames ls None = ls ≡ []
AreColumnNames ls (Some names) = AreEnclosed IsNamed ls names

-- The same as functions.
abbrev pub name_at : Reader (List ℕ)
name_at (Name name ∷ ls) = Some (name, ls)
name_at ls = None

-- VALUES and the values, where nothing follows
abbrev pub values_of : List Lexeme → Option (List Operand)
values_of (Word VALUES ∷ ls) = enclosed_last operand_at ls
values_of ls = None

abbrev pub insert_values_of : List ℕ → Option (List (List ℕ)) → List Lexeme → Option Statement
insert_values_of table columns ls = values_of ls >>= λ values. Some (Insert table columns values)

-- the same after the names of columns
abbrev pub insert_named_of : List ℕ → List Lexeme → Option Statement
insert_named_of table ls = enclosed name_at ls >>= λ names. insert_values_of table (Some names.0) names.1

abbrev pub insert_columns_of : List ℕ → List Lexeme → Option Statement
insert_columns_of table (Word VALUES ∷ ls) = insert_values_of table None (Word VALUES ∷ ls)
insert_columns_of table ls = insert_named_of table ls

-- what follows INSERT
abbrev pub insert_of : List Lexeme → Option Statement
insert_of (Word INTO ∷ Name table ∷ ls) = insert_columns_of table ls
insert_of ls = None

-- computed examples
of_two_columns : insert_of (Word INTO ∷ Name (codes "t") ∷ Sign Open ∷ Name (codes "a") ∷ Sign Comma ∷ Name (codes "b") ∷ Sign Close
    ∷ Word VALUES ∷ Sign Open ∷ Text (codes "x") ∷ Sign Close ∷ [])
    ≡ Some (Insert (codes "t") (Some (codes "a" ∷ codes "b" ∷ [])) (TextValue (codes "x") ∷ []))
of_two_columns = refl

no_column : insert_of (Word INTO ∷ Name (codes "t") ∷ Sign Open ∷ Sign Close ∷ Word VALUES ∷ Sign Open ∷ Text (codes "x") ∷ Sign Close ∷ []) ≡ None
no_column = refl
