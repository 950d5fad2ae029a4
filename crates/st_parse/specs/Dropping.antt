-- DROP TABLE and DROP INDEX, as they are read.
use Rattle.std.specs.Prelude.{◌≡◌, List, [], ◌∷◌, codes, Option, Some, None, refl}
use Rattle.st_parse.specs.declared.lexemes.Keyword.TheVariants.{Table as TABLE, Index as INDEX}
use Rattle.st_parse.specs.declared.lexemes.Lexeme.{Lexeme}
use Rattle.st_parse.specs.declared.lexemes.Lexeme.TheVariants.{Word, Name}
use Rattle.st_parse.specs.declared.statements.Statement.{Statement}
use Rattle.st_parse.specs.declared.statements.Statement.TheVariants.{DropTable, DropIndex}

-- what follows DROP
abbrev pub drop_of : List Lexeme → Option Statement
drop_of (Word TABLE ∷ Name name ∷ []) = Some (DropTable name)
drop_of (Word INDEX ∷ Name name ∷ []) = Some (DropIndex name)
drop_of ls = None

-- computed examples
two_tables : drop_of (Word TABLE ∷ Name (codes "a") ∷ Name (codes "b") ∷ []) ≡ None
two_tables = refl
