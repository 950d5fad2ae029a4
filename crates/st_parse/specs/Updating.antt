-- UPDATE, as it is spelt and as it is read.
use Rattle.std.specs.Prelude.{ℕ, ◌≡◌, pos, List, [], ◌∷◌, codes, Option, Some, None, refl}
use Rattle.st_parse.specs.declared.lexemes.Keyword.TheVariants.{Set as SET}
use Rattle.st_parse.specs.declared.lexemes.Symbol.TheVariants.{Comma, Equal}
use Rattle.st_parse.specs.declared.lexemes.Lexeme.{Lexeme}
use Rattle.st_parse.specs.declared.lexemes.Lexeme.TheVariants.{Word, Name, Text, Number, Sign}
use Rattle.st_parse.specs.declared.listing.Separator.TheVariants.{Comma as ByComma}
use Rattle.st_parse.specs.declared.statements.Whole.TheVariants.{Fits}
use Rattle.st_parse.specs.declared.statements.Operand.{Operand}
use Rattle.st_parse.specs.declared.statements.Operand.TheVariants.{Text as TextValue, Number as NumberValue}
use Rattle.st_parse.specs.declared.statements.Assign.{Assign}
use Rattle.st_parse.specs.declared.statements.Statement.{Statement}
use Rattle.st_parse.specs.declared.statements.Statement.TheVariants.{Update}
use Rattle.st_parse.specs.Lexemes.{◌>>=◌}
use Rattle.st_parse.specs.Lists.{Reader, list_at, where_of}
use Rattle.st_parse.specs.Values.{IsOperand, operand_at}
use Rattle.st_parse.specs.Conditions.{cond_at}

-- These lexemes set this column to this value.
abbrev pub IsAssign : List Lexeme → Assign → Type 0
IsAssign ls assign = (back : List Lexeme) × IsOperand back assign.value × (ls ≡ Name assign.column ∷ Sign Equal ∷ back)

-- The same as functions.
abbrev pub assign_to : List ℕ → Operand → Assign
assign_to column value = record { column = column; value = value }

abbrev pub assign_at : Reader Assign
assign_at (Name column ∷ Sign Equal ∷ ls) = operand_at ls >>= λ value. Some (assign_to column value.0, value.1)
assign_at ls = None

-- what follows the values that are set
abbrev pub update_where_of : List ℕ → List Assign → List Lexeme → Option Statement
update_where_of table assigns ls = where_of cond_at ls >>= λ conds. Some (Update table assigns conds)

-- what follows UPDATE
abbrev pub update_of : List Lexeme → Option Statement
update_of (Name table ∷ Word SET ∷ ls) = list_at ByComma assign_at ls >>= λ assigns. update_where_of table assigns.0 assigns.1
update_of ls = None

-- computed examples
of_every_row : update_of (Name (codes "t") ∷ Word SET ∷ Name (codes "a") ∷ Sign Equal ∷ Text (codes "x") ∷ Sign Comma ∷ Name (codes "b") ∷ Sign Equal ∷ Number (codes "1") ∷ [])
    ≡ Some (Update (codes "t") (assign_to (codes "a") (TextValue (codes "x")) ∷ assign_to (codes "b") (NumberValue (Fits (pos 1))) ∷ []) [])
of_every_row = refl

nothing_set : update_of (Name (codes "t") ∷ Word SET ∷ []) ≡ None
nothing_set = refl
