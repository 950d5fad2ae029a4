use Rattle.std.proofs.Common.{Option, ap, ◌∙◌}
use Rattle.std.specs.Prelude.{is_some}
use Rattle.ct_entry.specs.Keys.{at}
use Rattle.db_names.specs.declared.heads.IndexHead.{IndexHead}
use Rattle.db_names.specs.laws.Heads.{head_read}
use Rattle.db_state.specs.laws.Heads.{store_heads, heads_stand, get-heads, some_heads}
use Rattle.db_state.proofs.lookups.has_index.Goals as goal

pub returns-clause-there : goal.returns-clause-there
returns-clause-there g c = λ m k holds stands.
    let i = c.args.index.now in
    let found = head_read (at k) (store_heads m.indexes) (heads_stand (at k) m.tables m.indexes stands.state.tables stands.state.indexes stands.indexes) i c.in_ok-head.head (c.in_ok-head.ensures.value k holds) in
    c.is_some.ensures ∙ ap (λ (o : Option IndexHead). is_some o) (found ∙ get-heads m.indexes i) ∙ some_heads m.indexes i
