use Rattle.ix_search.proofs.FewLooks.{queries_look_few}
use Rattle.ix_search.proofs.laws.looking_law.Goals as goal

pub returns : goal.returns
returns c = queries_look_few c.looking_law.ensures
