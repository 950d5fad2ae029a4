use Rattle.db_hits.specs.laws.Allowing.{results_look_few}
use Rattle.db_hits.proofs.laws.looking_law.Goals as goal

pub returns : goal.returns
returns c = results_look_few c.looking_law.ensures
