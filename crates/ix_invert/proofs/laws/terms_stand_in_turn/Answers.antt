use Rattle.ix_invert.specs.laws.Terms as law
use Rattle.ix_invert.proofs.laws.terms_stand_in_turn.Goals as goal

pub returns : goal.returns
returns c = law.terms_stand_in_turn
