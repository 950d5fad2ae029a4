use Rattle.std.proofs.Common.{sym, ◌∙◌, ◌≡◌, Some}
use Rattle.st_parse.proofs.ReadStatements.{statement-again}
use Rattle.st_parse.proofs.laws.one_statement.Goals as goal

pub returns : goal.returns
returns c = λ ls s t is is'. let same : Some s ≡ Some t = sym (statement-again ls s is) ∙ statement-again ls t is' in cc
