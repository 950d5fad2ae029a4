use Rattle.tx_lexer.proofs.AsciiRules.{tokens_of_ascii}
use Rattle.tx_lexer.proofs.laws.ascii_tokens.Goals as goal

pub returns : goal.returns
returns c = tokens_of_ascii
