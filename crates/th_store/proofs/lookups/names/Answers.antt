use Rattle.th_store.proofs.NameSteps.{names_are}
use Rattle.th_store.proofs.lookups.names.Goals as goal

pub returns-clause-names : goal.returns-clause-names
returns-clause-names g c = λ m told ts holds. names_are m ts holds c.in_ok-names.names.items c.sort_names.new.names.items (c.in_ok-names.ensures.owners m told) c.in_ok-sort_names.ensures.permutation c.in_ok-sort_names.ensures.sorted
