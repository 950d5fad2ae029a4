use Rattle.db_select.proofs.NameOrder.{names_are}
use Rattle.db_select.proofs.names.index_names.Goals as goal

pub returns-clause-names : goal.returns-clause-names
returns-clause-names g c = λ m k holds stands.
    names_are m k stands c.in_ok-names.names.items c.sort_names.new.names.items (c.in_ok-names.ensures.owners k holds) c.in_ok-sort_names.ensures.permutation c.in_ok-sort_names.ensures.sorted
