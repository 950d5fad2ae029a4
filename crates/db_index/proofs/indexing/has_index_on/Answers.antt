use Rattle.std.proofs.Common.{◌∙◌}
use Rattle.db_index.proofs.IndexChecks.{found_on}
use Rattle.db_index.proofs.indexing.has_index_on.Goals as goal

pub returns-clause-there : goal.returns-clause-there
returns-clause-there g c = λ m k holds stands small.
    c.is_some.ensures ∙ found_on c.args.kind m.indexes c.args.table.now c.args.place c.in_ok-other.other (c.in_ok-other.ensures.found m k holds stands small)
