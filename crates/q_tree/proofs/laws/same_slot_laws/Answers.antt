use Rattle.q_tree.specs.laws.SameSlots.{slots_decide}
use Rattle.q_tree.proofs.laws.same_slot_laws.Goals as goal

pub returns : goal.returns
returns c = slots_decide
