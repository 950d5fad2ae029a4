-- Conditions on the values of columns, as they are spelt and as they are read.
use Rattle.std.specs.Prelude.{ℕ, ◌≡◌, pos, negsuc, List, [], ◌∷◌, ◌++◌, codes, Option, Some, None, refl}
use Rattle.st_parse.specs.declared.lexemes.Keyword.TheVariants.{Between as BETWEEN, In as IN, And as AND, Where as WHERE}
use Rattle.st_parse.specs.declared.lexemes.Symbol.{Symbol}
use Rattle.st_parse.specs.declared.lexemes.Symbol.TheVariants.{Open, Close, Comma, Equal as EqualSign, Less as LessSign, AtMost as AtMostSign, Greater as GreaterSign, AtLeast as AtLeastSign, Minus}
use Rattle.st_parse.specs.declared.lexemes.Lexeme.{Lexeme}
use Rattle.st_parse.specs.declared.lexemes.Lexeme.TheVariants.{Word, Name, Text, Number, Sign}
use Rattle.st_parse.specs.declared.statements.Whole.TheVariants.{Fits}
use Rattle.st_parse.specs.declared.statements.Operand.{Operand}
use Rattle.st_parse.specs.declared.statements.Operand.TheVariants.{Text as TextValue, Number as NumberValue}
use Rattle.st_parse.specs.declared.statements.Compare.{Compare as Comparison}
use Rattle.st_parse.specs.declared.statements.Compare.TheVariants.{Equal, Less, AtMost, Greater, AtLeast}
use Rattle.st_parse.specs.declared.statements.Cond.{Cond}
use Rattle.st_parse.specs.declared.statements.Cond.TheVariants.{Compare, Between, OneOf}
use Rattle.st_parse.specs.Lexemes.{◌>>=◌}
use Rattle.st_parse.specs.Lists.{AreEnclosed, Reader, enclosed, where_of}
use Rattle.st_parse.specs.Values.{IsOperand, operand_at}

-- the sign of a comparison
abbrev pub sign_of_comparison : Comparison → Symbol
sign_of_comparison Equal = EqualSign
sign_of_comparison Less = LessSign
sign_of_comparison AtMost = AtMostSign
sign_of_comparison Greater = GreaterSign
sign_of_comparison AtLeast = AtLeastSign

-- These lexemes are this condition. The first AND behind BETWEEN belongs to it.
abbrev pub IsCond : List Lexeme → Cond → Type 0
IsCond ls (Compare column op value) = (back : List Lexeme) × IsOperand back value × (ls ≡ Name column ∷ Sign (sign_of_comparison op) ∷ back)
IsCond ls (Between column low high) =
    (lows highs : List Lexeme) × IsOperand lows low × IsOperand highs high × (ls ≡ Name column ∷ Word BETWEEN ∷ (lows ++ Word AND ∷ highs))
IsCond ls (OneOf column values) = (list : List Lexeme) × AreEnclosed IsOperand list values × (ls ≡ Name column ∷ Word IN ∷ list)

-- The same as functions.
abbrev pub comparison_of : Symbol → Option Comparison
comparison_of EqualSign = Some Equal
comparison_of LessSign = Some Less
comparison_of AtMostSign = Some AtMost
comparison_of GreaterSign = Some Greater
comparison_of AtLeastSign = Some AtLeast
comparison_of sign = None

abbrev pub compared_at : List ℕ → Comparison → Reader Cond
compared_at column op ls = operand_at ls >>= λ value. Some (Compare column op value.0, value.1)

-- BETWEEN, by its low value and what follows that
abbrev pub between_at : List ℕ → Operand × List Lexeme → Option (Cond × List Lexeme)
between_at column (low, Word AND ∷ ls) = operand_at ls >>= λ high. Some (Between column low high.0, high.1)
between_at column found = None

-- what follows a column: a sign and what follows that, what follows BETWEEN, and what follows IN
abbrev pub comparison_at : List ℕ → Symbol → Reader Cond
comparison_at column sign ls = comparison_of sign >>= λ op. compared_at column op ls

abbrev pub range_at : List ℕ → Reader Cond
range_at column ls = operand_at ls >>= between_at column

abbrev pub one_of_at : List ℕ → Reader Cond
one_of_at column ls = enclosed operand_at ls >>= λ values. Some (OneOf column values.0, values.1)

abbrev pub cond_at : Reader Cond
cond_at (Name column ∷ Sign sign ∷ ls) = comparison_at column sign ls
cond_at (Name column ∷ Word BETWEEN ∷ ls) = range_at column ls
cond_at (Name column ∷ Word IN ∷ ls) = one_of_at column ls
cond_at ls = None

-- computed examples
equal : cond_at (Name (codes "a") ∷ Sign EqualSign ∷ Text (codes "x") ∷ []) ≡ Some (Compare (codes "a") Equal (TextValue (codes "x")), [])
equal = refl

less : cond_at (Name (codes "a") ∷ Sign LessSign ∷ Number (codes "1") ∷ []) ≡ Some (Compare (codes "a") Less (NumberValue (Fits (pos 1))), [])
less = refl

at_most : cond_at (Name (codes "a") ∷ Sign AtMostSign ∷ Number (codes "1") ∷ []) ≡ Some (Compare (codes "a") AtMost (NumberValue (Fits (pos 1))), [])
at_most = refl

greater : cond_at (Name (codes "a") ∷ Sign GreaterSign ∷ Number (codes "1") ∷ []) ≡ Some (Compare (codes "a") Greater (NumberValue (Fits (pos 1))), [])
greater = refl

at_least : cond_at (Name (codes "a") ∷ Sign AtLeastSign ∷ Sign Minus ∷ Number (codes "1") ∷ []) ≡ Some (Compare (codes "a") AtLeast (NumberValue (Fits (negsuc 0))), [])
at_least = refl

one_of_two : cond_at (Name (codes "a") ∷ Word IN ∷ Sign Open ∷ Number (codes "1") ∷ Sign Comma ∷ Text (codes "x") ∷ Sign Close ∷ Word AND ∷ [])
    ≡ Some (OneOf (codes "a") (NumberValue (Fits (pos 1)) ∷ TextValue (codes "x") ∷ []), Word AND ∷ [])
one_of_two = refl

one_of_none : cond_at (Name (codes "a") ∷ Word IN ∷ Sign Open ∷ Sign Close ∷ []) ≡ None
one_of_none = refl

-- `a BETWEEN 1 AND 2 AND b = 3` has two conditions.
between_and_equal : where_of cond_at (Word WHERE ∷ Name (codes "a") ∷ Word BETWEEN ∷ Number (codes "1") ∷ Word AND ∷ Number (codes "2") ∷ Word AND
    ∷ Name (codes "b") ∷ Sign EqualSign ∷ Number (codes "3") ∷ [])
    ≡ Some (Between (codes "a") (NumberValue (Fits (pos 1))) (NumberValue (Fits (pos 2))) ∷ Compare (codes "b") Equal (NumberValue (Fits (pos 3))) ∷ [])
between_and_equal = refl

no_high_value : where_of cond_at (Word WHERE ∷ Name (codes "a") ∷ Word BETWEEN ∷ Number (codes "1") ∷ []) ≡ None
no_high_value = refl
