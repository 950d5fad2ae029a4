-- What the function of `src/laws.rt` promises of all tables.
use Rattle.std.specs.Prelude.{◌≡◌, length, refl}
use Rattle.csv_table.specs.declared.tables.Table.{Table}
use Rattle.csv_table.specs.Tables.{IsWritable}
use Rattle.csv_table.specs.Spelling.{lamps, script_text}
use Rattle.csv_table.specs.Scripts.{IsScriptOf, IsShort, statements}

-- the script of a table whose parts can be written, and whose statements aren't too long, is read as the table's statements
abbrev pub ScriptsAreRead : Type 0
ScriptsAreRead = (t : Table) → IsWritable t → IsShort t → IsScriptOf (script_text t) (statements t)

-- the statements of the lamps are two, and what this says of their script
two_statements : length (statements lamps) ≡ 2
two_statements = refl

lamps_are_read : ScriptsAreRead → IsWritable lamps → IsShort lamps → IsScriptOf (script_text lamps) (statements lamps)
lamps_are_read law writable short = law lamps writable short
