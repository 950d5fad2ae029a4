use Rattle.cat_where.proofs.Lexemes.{same_lexemes}
use Rattle.cat_where.proofs.laws.same_lexemes.Goals as goal

pub returns : goal.returns
returns c = same_lexemes
