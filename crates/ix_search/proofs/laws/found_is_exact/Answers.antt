use Rattle.ix_search.proofs.FoundLaws.{found_is_exact, found_rises}
use Rattle.ix_search.proofs.laws.found_is_exact.Goals as goal

pub returns-clause-exact : goal.returns-clause-exact
returns-clause-exact c = found_is_exact

pub returns-clause-rising : goal.returns-clause-rising
returns-clause-rising c = found_rises
