use Rattle.q_lex.proofs.Scans.{bytes_are}
use Rattle.q_lex.proofs.scanning.bytes_in.Goals as goal

pub returns : goal.returns
returns c = bytes_are c.args.text.now c.utf8.text
