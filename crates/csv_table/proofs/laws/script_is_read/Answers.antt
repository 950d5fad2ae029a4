use Rattle.csv_table.proofs.ScriptsRead.{script_read}
use Rattle.csv_table.proofs.laws.script_is_read.Goals as goal

pub returns : goal.returns
returns c = script_read c.written_is_read.ensures c.statement_is_read.ensures
