use Rattle.pg_heap.specs.Heaps.{IsDirected, IsReady}
use Rattle.page_tests.proofs.many.wrong_stage_in.Given as goal

abbrev pub invariant-loop-number : goal.invariant-loop-number
invariant-loop-number g l = IsReady (g.D.Disk.disk l.disk) l.heap × IsDirected l.heap
