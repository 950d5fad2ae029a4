-- What the functions that read return, against what the definitions of lexemes and statements give.
use Rattle.std.specs.Prelude.{ℕ, ◌≡◌, Option, Some, None, Result, Ok, Err, refl}
use Rattle.st_parse.specs.declared.lexing.LexFault.{LexFault}
use Rattle.st_parse.specs.declared.lexing.LexFault.TheVariants.{NoLexeme, Memory as NoMemory}
use Rattle.st_parse.specs.declared.parsing.StatementFault.{StatementFault}
use Rattle.st_parse.specs.declared.parsing.StatementFault.TheVariants.{Syntax, Memory}
use Rattle.st_parse.specs.declared.statements.Statement.{Statement}

-- want of memory says nothing of what is read
abbrev pub LexFails : {Y : Type 0} → LexFault → Option Y → Type 0
LexFails NoLexeme read = read ≡ None
LexFails NoMemory read = Unit {0}

-- a value, seen by `view`, is what is read
abbrev pub LexGives : {X Y : Type 0} → (X → Y) → Result X LexFault → Option Y → Type 0
LexGives view (Ok x) read = read ≡ Some (view x)
LexGives view (Err fault) read = LexFails fault read

abbrev pub Fails : {Y : Type 0} → StatementFault → Option Y → Type 0
Fails Syntax read = read ≡ None
Fails Memory read = Unit {0}

abbrev pub ReadGives : {X Y : Type 0} → (X → Y) → Result X StatementFault → Option Y → Type 0
ReadGives view (Ok x) read = read ≡ Some (view x)
ReadGives view (Err fault) read = Fails fault read

abbrev pub StatementGives : Result Statement StatementFault → Option Statement → Type 0
StatementGives result read = ReadGives (λ s. s) result read

-- a fault of the lexemes as one of the statement
abbrev pub statement_fault : LexFault → StatementFault
statement_fault NoLexeme = Syntax
statement_fault NoMemory = Memory

-- computed examples
a_number_is_read : ReadGives {X = ℕ} (λ n. n) (Ok 5) (Some 5)
a_number_is_read = refl

nothing_is_read : ReadGives {X = ℕ} (λ n. n) (Err Syntax) None
nothing_is_read = refl

nothing_is_said : ReadGives {X = ℕ} (λ n. n) (Err Memory) (Some 5)
nothing_is_said = tt
