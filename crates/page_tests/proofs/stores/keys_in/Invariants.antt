use Rattle.pg_heap.specs.Heaps.{IsDirected, IsReady}
use Rattle.page_tests.proofs.stores.keys_in.Given as goal

abbrev pub invariant-loop : goal.invariant-loop
invariant-loop g l = IsReady (g.D.Disk.disk l.disk) l.heap × IsDirected l.heap
