-- What the program does, and its status.
use Rattle.std.specs.Prelude.{ℕ, ◌≡◌, ⊤, List, [], ◌∷◌, codes, Option, Some, None, IfSome, Result, Ok, Err, refl}
use Rattle.csv_table.specs.declared.refusals.Refusal.{Refusal}
use Rattle.csv_table.specs.declared.refusals.Refusal.TheVariants.{TableName, NoColumn, TooManyColumns, ColumnName, TwoColumns, UnknownKey, TooManyRows, FieldCount, NotUtf8, TooLong, CutText, NoKey, KeyTwice, StatementTooLong, Memory}
use Rattle.csv_table.specs.Faults.{ScriptFault}
use Rattle.csv_table.specs.Scripts.{IsScriptOfText}
use Rattle.ctxcsv.specs.declared.program.Failure.{Failure}
use Rattle.ctxcsv.specs.declared.program.Failure.TheVariants.{Arguments, Input, Output, Refused}
use Rattle.ctxcsv.specs.Arguments.{Asks, asked}

-- what the words of the command ask for; there are none where they can't be had
abbrev pub command : Option (List (List ℕ)) → Option Asks
command None = None
command (Some words) = asked words

-- the script makes the table that was asked for, of the CSV text
abbrev pub IsScriptFor : List ℕ → Asks → List ℕ → Type 0
IsScriptFor text asks script = IsScriptOfText text asks.0 asks.1 script

-- the status of a refusal
abbrev pub refusal_status : Refusal → ℕ
refusal_status Memory = 5
refusal_status TableName = 10
refusal_status NoColumn = 11
refusal_status (TooManyColumns line) = 12
refusal_status (ColumnName line field) = 13
refusal_status (TwoColumns line) = 14
refusal_status UnknownKey = 15
refusal_status (TooManyRows line) = 16
refusal_status (FieldCount line count wanted) = 17
refusal_status (NotUtf8 line field) = 18
refusal_status (TooLong line field) = 19
refusal_status (CutText line field) = 20
refusal_status (NoKey line field) = 21
refusal_status (KeyTwice line first) = 22
refusal_status (StatementTooLong line) = 23

abbrev pub status : Failure → ℕ
status Arguments = 2
status Input = 3
status Output = 4
status (Refused refusal) = refusal_status refusal

-- the status of the program
abbrev pub status_after : Result (Unit {0}) Failure → ℕ
status_after (Ok done) = 0
status_after (Err failure) = status failure

-- what was written before the failure: nothing, unless writing itself failed
abbrev pub LeavesOutput : {W : Type 0} → Failure → W → W → Type 0
LeavesOutput Output old new = ⊤
LeavesOutput failure old new = new ≡ old

-- What is wrong with the CSV text, where it is known, that a failure refuses. The arguments aren't refused where they ask for something.
-- Nothing is said of when standard input or output fails.
abbrev pub IsCauseOf : Option (List ℕ) → Asks → Failure → Type 0
IsCauseOf known asks Arguments = ⊥
IsCauseOf known asks Input = ⊤
IsCauseOf known asks Output = ⊤
IsCauseOf known asks (Refused refusal) = IfSome known (λ text. ScriptFault text asks.0 asks.1 refusal)

-- computed examples
no_words : command None ≡ None
no_words = refl

a_table : command (Some (codes "lamps" ∷ [])) ≡ Some (codes "lamps", None)
a_table = refl

no_memory : status (Refused Memory) ≡ 5
no_memory = refl

a_key_twice : status (Refused (KeyTwice 7 3)) ≡ 22
a_key_twice = refl
