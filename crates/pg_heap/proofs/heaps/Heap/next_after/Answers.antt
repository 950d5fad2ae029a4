use Rattle.std.proofs.Common.{ap, sym, subst, ◌∙◌}
use Rattle.pg_directory.specs.Holding.{HasTop}
use Rattle.pg_directory.specs.Looking.{DiskHolds}
use Rattle.pg_heap.specs.HeapFields.{heap_state}
use Rattle.pg_heap.specs.Heaps.{HeapState, IsReady}
use Rattle.pg_heap.proofs.States.{has_top, nothing_above, ready_then}
use Rattle.pg_heap.proofs.heaps.Heap.next_after.Goals as goal

pub returns-then-self-eq0-clause-entry : goal.returns-then-self-eq0-clause-entry
returns-then-self-eq0-clause-entry g c = λ s.
    sym (nothing_above (g.D.Disk.disk c.args.disk.now) c.args.self.now s c.requires.directed (sym (ap (λ (h : HeapState). h.top) c.self.view_is) ∙ c.if-self-eq0.true) c.args.key.now)

pub returns-clause-entry : goal.returns-clause-entry
returns-clause-entry g c = λ s.
    let view = c.self.view_is in
    c.next_after.ensures.entry s.pages s.held (subst (λ (h : HeapState). DiskHolds (g.D.Disk.disk c.args.disk.now) h.homes h.top s.pages) (sym view) s.holds) s.layout
    (subst (λ (h : HeapState). HasTop s.pages h.top) (sym view) (has_top (g.D.Disk.disk c.args.disk.now) c.args.self.now s (λ e. c.if-self-eq0.false (ap (λ (h : HeapState). h.top) view ∙ e))))

pub returns-clause-ready : goal.returns-clause-ready
returns-clause-ready g c =
    ready_then (g.D.Disk.disk c.args.disk.now) (g.D.Disk.disk c.next_after.new.disk) (heap_state c.self.inside) c.next_after.new.cache (subst (IsReady (g.D.Disk.disk c.args.disk.now)) (sym c.self.view_is) c.requires.ready) c.next_after.ensures.same c.next_after.ensures.cache
