use Rattle.tb_table.proofs.NameSteps.{tables_named}
use Rattle.tb_table.proofs.listings.tables.Goals as goal

pub returns-clause-names : goal.returns-clause-names
returns-clause-names g c = λ m holds. tables_named m c.in_ok-names.names.items c.sort_names.new.names.items (c.in_ok-names.ensures.owners m holds) c.in_ok-sort_names.ensures.permutation c.in_ok-sort_names.ensures.sorted
