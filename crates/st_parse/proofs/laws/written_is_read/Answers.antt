use Rattle.st_parse.proofs.Written.{written_is_read}
use Rattle.st_parse.proofs.Read.{read_is_written}
use Rattle.st_parse.proofs.laws.written_is_read.Goals as goal

pub returns : goal.returns
returns c = λ ls text. (written_is_read ls text, read_is_written text ls)
