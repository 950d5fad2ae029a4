-- EXEC, as it is spelt and as it is read.
use Rattle.std.specs.Prelude.{◌≡◌, negsuc, refl, ◌⊎◌, true, false, List, [], ◌∷◌, codes, Option, Some, None}
use Rattle.st_parse.specs.declared.lexemes.Keyword.{Keyword}
use Rattle.st_parse.specs.declared.lexemes.Keyword.TheVariants.{Exec as EXEC, Execute as EXECUTE, True as TRUE, False as FALSE}
use Rattle.st_parse.specs.declared.lexemes.Symbol.TheVariants.{Open, Close, Comma, Dot, Minus}
use Rattle.st_parse.specs.declared.lexemes.Lexeme.{Lexeme}
use Rattle.st_parse.specs.declared.lexemes.Lexeme.TheVariants.{Word, Name, Text, Number, Sign}
use Rattle.st_parse.specs.declared.statements.Whole.TheVariants.{Fits}
use Rattle.st_parse.specs.declared.statements.Arg.{Arg}
use Rattle.st_parse.specs.declared.statements.Arg.TheVariants.{Text as TextArg, Number as NumberArg, Flag}
use Rattle.st_parse.specs.declared.procedures.Procedure.{Procedure}
use Rattle.st_parse.specs.declared.statements.Statement.{Statement}
use Rattle.st_parse.specs.declared.statements.Statement.TheVariants.{Exec}
use Rattle.st_parse.specs.Lexemes.{◌>>=◌}
use Rattle.st_parse.specs.Lists.{AreEnclosed, Reader, enclosed_last}
use Rattle.st_parse.specs.Procedures.{procedure_named}
use Rattle.st_parse.specs.Values.{IsSigned, signed_at}

-- EXEC and EXECUTE mean the same.
abbrev pub IsExec : Keyword → Type 0
IsExec word = (word ≡ EXEC) ⊎ (word ≡ EXECUTE)

-- These lexemes are this argument.
abbrev pub IsArg : List Lexeme → Arg → Type 0
IsArg ls (TextArg text) = ls ≡ Text text ∷ []
IsArg ls (NumberArg n) = IsSigned ls n
IsArg ls (Flag true) = ls ≡ Word TRUE ∷ []
IsArg ls (Flag false) = ls ≡ Word FALSE ∷ []

-- no argument, or a list of arguments, in parentheses
abbrev pub AreArgs : List Lexeme → List Arg → Type 0
AreArgs ls [] = ls ≡ Sign Open ∷ Sign Close ∷ []
AreArgs ls (arg ∷ args) = AreEnclosed IsArg ls (arg ∷ args)

-- The same as functions.
abbrev pub arg_at : Reader Arg
arg_at (Text text ∷ ls) = Some (TextArg text, ls)
arg_at (Word TRUE ∷ ls) = Some (Flag true, ls)
arg_at (Word FALSE ∷ ls) = Some (Flag false, ls)
arg_at ls = signed_at ls >>= λ n. Some (NumberArg n.0, n.1)

abbrev pub args_of : List Lexeme → Option (List Arg)
args_of (Sign Open ∷ Sign Close ∷ []) = Some []
args_of ls = enclosed_last arg_at ls

-- the call of a procedure that there is
abbrev pub call_of : Option Procedure → List Arg → Option Statement
call_of None args = None
call_of (Some procedure) args = Some (Exec procedure args)

-- what follows EXEC
abbrev pub exec_of : List Lexeme → Option Statement
exec_of (Name pack ∷ Sign Dot ∷ Name name ∷ ls) = args_of ls >>= λ args. call_of (procedure_named pack name) args
exec_of ls = None

-- computed examples
three_arguments : args_of (Sign Open ∷ Text (codes "i") ∷ Sign Comma ∷ Sign Minus ∷ Number (codes "5") ∷ Sign Comma ∷ Word TRUE ∷ Sign Close ∷ [])
    ≡ Some (TextArg (codes "i") ∷ NumberArg (Fits (negsuc 4)) ∷ Flag true ∷ [])
three_arguments = refl

no_argument : args_of (Sign Open ∷ Sign Close ∷ []) ≡ Some []
no_argument = refl

an_argument_is_missing : args_of (Sign Open ∷ Text (codes "i") ∷ Sign Comma ∷ Sign Close ∷ []) ≡ None
an_argument_is_missing = refl
