use Rattle.std.proofs.Common.{refl}
use Rattle.ct_keep.proofs.mem_keepers.MemKeeperKeeper.next_after.Goals as goal

pub returns-clause-state : goal.returns-clause-state
returns-clause-state c = rw (c.next_after.ensures.state, ← c.self.view_is) refl
