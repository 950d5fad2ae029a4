use Rattle.pg_heap.proofs.Loadings.{found_store, found_none}
use Rattle.pg_heap.proofs.loading.open_loaded.Goals as goal

pub returns-clause-opened : goal.returns-clause-opened
returns-clause-opened g c = λ pages st. found_store c.in-Ok.found c.in-Some.store pages (c.in-Ok.ensures.opened pages st) c.in-Some.is

pub returns-in_default-clause-no_store : goal.returns-in_default-clause-no_store
returns-in_default-clause-no_store g c = λ pages st is. found_none c.in-Ok.found pages (c.in-Ok.ensures.opened pages st) c.in_default.is
