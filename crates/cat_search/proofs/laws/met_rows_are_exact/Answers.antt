use Rattle.cat_search.specs.laws.Met.{met_rows_are_exact}
use Rattle.cat_search.proofs.laws.met_rows_are_exact.Goals as goal

pub returns-clause-exact : goal.returns-clause-exact
returns-clause-exact c = met_rows_are_exact
