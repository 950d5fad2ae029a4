use Rattle.std.proofs.Common.{◌∙◌}
use Rattle.ct_entry.specs.Keys.{at}
use Rattle.db_names.specs.laws.Heads.{head_read}
use Rattle.db_state.specs.laws.Heads.{store_heads, heads_stand, get-heads}
use Rattle.db_hits.proofs.CallSteps.{has_head}
use Rattle.db_hits.proofs.calling.head_of.Goals as goal

pub returns-clause-head : goal.returns-clause-head
returns-clause-head g c = λ m k holds stands.
    let i = c.args.index.now in
    let found = head_read (at k) (store_heads m.indexes) (heads_stand (at k) m.tables m.indexes stands.state.tables stands.state.indexes stands.indexes) i c.in_ok-head.head (c.in_ok-head.ensures.value k holds) in
    has_head m i c.in_ok-head.head (found ∙ get-heads m.indexes i)
