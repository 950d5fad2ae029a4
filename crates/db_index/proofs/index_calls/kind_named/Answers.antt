use Rattle.std.proofs.Common.{sym, ap, ◌∙◌}
use Rattle.std.specs.Option.{option_map}
use Rattle.std.specs.FinMap.{get}
use Rattle.ct_entry.specs.Keys.{at}
use Rattle.db_names.specs.declared.heads.IndexHead.{IndexHead}
use Rattle.db_names.specs.laws.Heads.{head_read}
use Rattle.db_state.specs.laws.Heads.{store_heads, heads_stand, get-heads}
use Rattle.db_index.specs.IndexCalls.{kind_named}
use Rattle.db_index.proofs.IndexCallSteps.{kind_of_head}
use Rattle.db_index.proofs.index_calls.kind_named.Goals as goal

pub returns-clause-kind : goal.returns-clause-kind
returns-clause-kind g c = λ m k holds stands.
    let i = c.in-Some.index in
    let found = head_read (at k) (store_heads m.indexes) (heads_stand (at k) m.tables m.indexes stands.state.tables stands.state.indexes stands.indexes) i c.in_ok-head.head (c.in_ok-head.ensures.value k holds) in
    c.kind_in.ensures ∙ ap (option_map (λ (h : IndexHead). h.kind)) (found ∙ get-heads m.indexes i) ∙ kind_of_head (get m.indexes i) ∙ ap (kind_named m) (sym c.in-Some.is)
