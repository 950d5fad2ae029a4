use Rattle.q_reduce.proofs.SoundQueries.{reduced_is_sound}
use Rattle.q_reduce.proofs.laws.reduced_is_sound.Goals as goal

pub returns : goal.returns
returns c = reduced_is_sound
