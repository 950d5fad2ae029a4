-- INSERT is read as it is spelt.
use Rattle.std.proofs.Common.{◌≡◌, ℕ, List, [], ◌∷◌, ◌++◌, refl, sym, ap, ◌∙◌, subst, Option, Some, None}
use Rattle.st_parse.specs.declared.lexemes.Keyword.TheVariants.{Insert as INSERT, Into as INTO, Values as VALUES}
use Rattle.st_parse.specs.declared.lexemes.Lexeme.{Lexeme}
use Rattle.st_parse.specs.declared.lexemes.Lexeme.TheVariants.{Word, Name}
use Rattle.st_parse.specs.declared.statements.Operand.{Operand}
use Rattle.st_parse.specs.declared.statements.Statement.TheVariants.{Insert}
use Rattle.st_parse.specs.Lexemes.{◌>>=◌}
use Rattle.st_parse.specs.Lists.{AreEnclosed, enclosed, enclosed_last}
use Rattle.st_parse.specs.Values.{IsOperand, operand_at}
use Rattle.st_parse.specs.Inserting.{IsNamed, AreColumnNames, name_at, insert_values_of, insert_columns_of, insert_of}
use Rattle.st_parse.specs.Grammar.{IsStatement}
use Rattle.st_parse.proofs.Spelt.{Spelt, Wholly, Follows, enclosed-spelt, enclosed_last-spelt, enclosed-again, enclosed_last-again}
use Rattle.st_parse.proofs.SpeltValues.{value-spelt, value-again}

name-spelt : (ls : List Lexeme) → Spelt IsNamed (name_at ls) ls
name-spelt (Name name ∷ ls) = (Name name ∷ [], refl, refl)
name-spelt ls = tt

name-again : (prefix rest : List Lexeme) (name : List ℕ) → IsNamed prefix name → Follows rest → name_at (prefix ++ rest) ≡ Some (name, rest)
name-again prefix rest name e follows = ap (λ x. name_at (x ++ rest)) e

-- what stands before the columns
abbrev into : List ℕ → List Lexeme → List Lexeme
into table ls = Word INSERT ∷ Word INTO ∷ Name table ∷ ls

made-means : (table : List ℕ) (columns : Option (List (List ℕ))) (names ls : List Lexeme) (o : Option (List Operand)) → AreColumnNames names columns
    → Wholly (AreEnclosed IsOperand) o ls
    → Wholly IsStatement (o >>= λ values. Some (Insert table columns values)) (into table (names ++ Word VALUES ∷ ls))
made-means table columns names ls None are values = tt
made-means table columns names ls (Some found) are values = (names, ls, are, values, refl)

values-means : (table : List ℕ) (columns : Option (List (List ℕ))) (names ls : List Lexeme) → AreColumnNames names columns
    → Wholly IsStatement (insert_values_of table columns ls) (into table (names ++ ls))
values-means table columns names (Word VALUES ∷ ls) are =
    made-means table columns names ls (enclosed_last operand_at ls) are (enclosed_last-spelt IsOperand operand_at value-spelt ls)
values-means table columns names ls are = tt

names-means : (table : List ℕ) (o : Option (List (List ℕ) × List Lexeme)) (ls : List Lexeme) → Spelt (AreEnclosed IsNamed) o ls
    → Wholly IsStatement (o >>= λ names. insert_values_of table (Some names.0) names.1) (into table ls)
names-means table None ls are = tt
names-means table (Some (names, rest)) ls (prefix, are, e) =
    subst (λ x. Wholly IsStatement (insert_values_of table (Some names) rest) (into table x)) (sym e) (values-means table (Some names) prefix rest are)

columns-means : (table : List ℕ) (ls : List Lexeme) → Wholly IsStatement (insert_columns_of table ls) (into table ls)
columns-means table (Word VALUES ∷ ls) = values-means table None [] (Word VALUES ∷ ls) refl
columns-means table ls = names-means table (enclosed name_at ls) ls (enclosed-spelt IsNamed name_at name-spelt ls)

pub insert-means : (ls : List Lexeme) → Wholly IsStatement (insert_of ls) (Word INSERT ∷ ls)
insert-means (Word INTO ∷ Name table ∷ ls) = columns-means table ls
insert-means ls = tt

-- a list of columns doesn't begin with VALUES
columns-names : (table : List ℕ) (ls rest : List Lexeme) (names : List (List ℕ)) → enclosed name_at ls ≡ Some (names, rest)
    → insert_columns_of table ls ≡ insert_values_of table (Some names) rest
columns-names table (Word VALUES ∷ ls) rest names read = cc
columns-names table ls rest names read = ap (λ o. o >>= λ found. insert_values_of table (Some found.0) found.1) read

columns-again : (table : List ℕ) (columns : Option (List (List ℕ))) (names list : List Lexeme) → AreColumnNames names columns
    → insert_columns_of table (names ++ Word VALUES ∷ list) ≡ insert_values_of table columns (Word VALUES ∷ list)
columns-again table None names list e = ap (λ x. insert_columns_of table (x ++ Word VALUES ∷ list)) e
columns-again table (Some found) names list are =
    columns-names table (names ++ Word VALUES ∷ list) (Word VALUES ∷ list) found (enclosed-again IsNamed name_at name-again names (Word VALUES ∷ list) found are)

pub insert-again : (table : List ℕ) (columns : Option (List (List ℕ))) (values : List Operand) (names list : List Lexeme)
    → AreColumnNames names columns → AreEnclosed IsOperand list values
    → insert_of (Word INTO ∷ Name table ∷ (names ++ Word VALUES ∷ list)) ≡ Some (Insert table columns values)
insert-again table columns values names list are are' =
    columns-again table columns names list are ∙ ap (λ o. o >>= λ found. Some (Insert table columns found)) (enclosed_last-again IsOperand operand_at value-again list values are')
