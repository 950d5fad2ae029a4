use Rattle.ix_invert.specs.laws.Unique as law
use Rattle.ix_invert.proofs.laws.each_has_one_inversion.Goals as goal

pub returns : goal.returns
returns c = law.each_has_one_inversion
