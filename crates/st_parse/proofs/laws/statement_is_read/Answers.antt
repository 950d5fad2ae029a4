use Rattle.st_parse.proofs.ReadStatements.{statement-read}
use Rattle.st_parse.proofs.laws.statement_is_read.Goals as goal

pub returns : goal.returns
returns c = statement-read
