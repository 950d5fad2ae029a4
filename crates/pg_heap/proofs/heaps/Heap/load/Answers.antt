use Rattle.pg_journal.specs.declared.faults.LoadFault.TheVariants.{NotAStore}
use Rattle.pg_heap.specs.Heaps.{state_of}
use Rattle.pg_heap.proofs.States.{fault_same, loaded_map, loaded_stands, ready_of}
use Rattle.pg_heap.proofs.heaps.Heap.load.Goals as goal

pub returns-in-Err-clause-no_store : goal.returns-in-Err-clause-no_store
returns-in-Err-clause-no_store g c = λ image settled is. c.in-Err.ensures.no_store image settled (fault_same c.in-Err.fault NotAStore is)

pub returns-clause-loaded : goal.returns-clause-loaded
returns-clause-loaded g c = λ image settled.
    let l = c.in-Ok.loaded in
    rw c.of.ensures (loaded_map image (g.D.Disk.disk c.load_store.new.disk) l.journal l.cache l.store l.unused.items l.total l.counts (c.in-Ok.ensures.loaded image settled))

pub returns-clause-ready : goal.returns-clause-ready
returns-clause-ready g c =
    let l = c.in-Ok.loaded in
    rw c.of.ensures (ready_of (g.D.Disk.disk c.args.disk.now) (g.D.Disk.disk c.load_store.new.disk) (state_of l.journal l.cache l.store l.unused.items l.total l.counts) c.requires c.in-Ok.ensures.loads.untold
    (λ image settled. loaded_stands image (g.D.Disk.disk c.load_store.new.disk) l.journal l.cache l.store l.unused.items l.total l.counts (c.in-Ok.ensures.loaded image settled)) c.in-Ok.ensures.cache)
