use Rattle.pg_heap.specs.Heaps.{IsDirected, IsReady}
use Rattle.page_tests.proofs.stores.are_done_in.Given as goal

abbrev pub invariant-loop-step : goal.invariant-loop-step
invariant-loop-step g l = IsReady (g.D.Disk.disk l.disk) l.heap × IsDirected l.heap
