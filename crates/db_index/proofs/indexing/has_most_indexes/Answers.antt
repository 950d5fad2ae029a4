use Rattle.std.proofs.Common.{length, ap, ◌∙◌}
use Rattle.std.specs.Prelude.{nat_le}
use Rattle.ct_entry.specs.Keys.{at}
use Rattle.db_names.specs.laws.Heads.{indexes_of_read}
use Rattle.db_state.specs.States.{index_limit}
use Rattle.db_state.specs.laws.Heads.{store_heads, heads_stand}
use Rattle.db_index.proofs.IndexChecks.{heads_count}
use Rattle.db_index.proofs.indexing.has_most_indexes.Goals as goal

pub returns-clause-many : goal.returns-clause-many
returns-clause-many g c = λ m k holds stands.
    let t = c.args.table.now in
    let found = indexes_of_read (at k) (store_heads m.indexes) (heads_stand (at k) m.tables m.indexes stands.state.tables stands.state.indexes stands.indexes) t c.in_ok-indexes.indexes.items (c.in_ok-indexes.ensures.value k holds) in
    c.are_most.ensures ∙ ap (nat_le index_limit) (ap length (c.deref.ensures.value ∙ found) ∙ heads_count m.indexes t)
