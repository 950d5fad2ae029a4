-- DELETE, as it is spelt and as it is read.
use Rattle.std.specs.Prelude.{◌≡◌, ◌⊎◌, List, [], ◌∷◌, codes, Option, Some, None, refl}
use Rattle.st_parse.specs.declared.lexemes.Keyword.TheVariants.{From as FROM, Where as WHERE}
use Rattle.st_parse.specs.declared.lexemes.Lexeme.{Lexeme}
use Rattle.st_parse.specs.declared.lexemes.Lexeme.TheVariants.{Word, Name}
use Rattle.st_parse.specs.declared.statements.Statement.{Statement}
use Rattle.st_parse.specs.declared.statements.Statement.TheVariants.{Delete}
use Rattle.st_parse.specs.Lexemes.{◌>>=◌}
use Rattle.st_parse.specs.Lists.{where_of}
use Rattle.st_parse.specs.Conditions.{cond_at}

-- FROM, or nothing
abbrev pub IsOptionalFrom : List Lexeme → Type 0
IsOptionalFrom ls = (ls ≡ Word FROM ∷ []) ⊎ (ls ≡ [])

-- The same as functions: what follows DELETE and FROM, and what follows DELETE.
abbrev pub delete_from_of : List Lexeme → Option Statement
delete_from_of (Name table ∷ ls) = where_of cond_at ls >>= λ conds. Some (Delete table conds)
delete_from_of ls = None

abbrev pub delete_of : List Lexeme → Option Statement
delete_of (Word FROM ∷ ls) = delete_from_of ls
delete_of ls = delete_from_of ls

-- computed examples
every_row : delete_of (Word FROM ∷ Name (codes "t") ∷ []) ≡ Some (Delete (codes "t") [])
every_row = refl

without_from : delete_of (Name (codes "t") ∷ []) ≡ Some (Delete (codes "t") [])
without_from = refl

twice_from : delete_of (Word FROM ∷ Word FROM ∷ Name (codes "t") ∷ []) ≡ None
twice_from = refl

nothing_behind_where : delete_of (Name (codes "t") ∷ Word WHERE ∷ []) ≡ None
nothing_behind_where = refl
