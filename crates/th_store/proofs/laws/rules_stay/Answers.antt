use Rattle.th_store.specs.laws.Pairs.{one_pair_more}
use Rattle.th_store.specs.laws.Rules.{created_stay, related_stay}
use Rattle.th_store.proofs.laws.rules_stay.Goals as goal

pub returns-clause-more : goal.returns-clause-more
returns-clause-more c = one_pair_more

pub returns-clause-created : goal.returns-clause-created
returns-clause-created c = created_stay

pub returns-clause-related : goal.returns-clause-related
returns-clause-related c = related_stay
