use Rattle.db_select.specs.laws.Allowing.{selects_look_few}
use Rattle.db_select.proofs.laws.looking_law.Goals as goal

pub returns : goal.returns
returns c = selects_look_few c.looking_law.ensures
