use Rattle.std.proofs.Common.{ap, sym, subst, ◌∙◌}
use Rattle.pg_directory.specs.Holding.{HasTop}
use Rattle.pg_directory.specs.Looking.{DiskHolds}
use Rattle.pg_heap.specs.HeapFields.{heap_state}
use Rattle.pg_heap.specs.Heaps.{HeapState, IsReady}
use Rattle.pg_heap.proofs.States.{has_top, nothing_held, reads_pages, ready_then}
use Rattle.pg_heap.proofs.heaps.Heap.fetch.Goals as goal

pub returns-then-self-eq0-clause-value : goal.returns-then-self-eq0-clause-value
returns-then-self-eq0-clause-value g c = λ s.
    sym (nothing_held (g.D.Disk.disk c.args.disk.now) c.args.self.now s c.requires.directed (sym (ap (λ (h : HeapState). h.top) c.self.view_is) ∙ c.if-self-eq0.true) c.args.key.now)

pub returns-clause-value : goal.returns-clause-value
returns-clause-value g c = λ s.
    let view = c.self.view_is in
    c.fetch.ensures.value s.pages s.held (subst (λ (h : HeapState). DiskHolds (g.D.Disk.disk c.args.disk.now) h.homes h.top s.pages) (sym view) s.holds) s.layout
    (subst (λ (h : HeapState). HasTop s.pages h.top) (sym view) (has_top (g.D.Disk.disk c.args.disk.now) c.args.self.now s (λ e. c.if-self-eq0.false (ap (λ (h : HeapState). h.top) view ∙ e))))

pub returns-clause-ready : goal.returns-clause-ready
returns-clause-ready g c =
    ready_then (g.D.Disk.disk c.args.disk.now) (g.D.Disk.disk c.fetch.new.disk) (heap_state c.self.inside) c.fetch.new.cache (subst (IsReady (g.D.Disk.disk c.args.disk.now)) (sym c.self.view_is) c.requires.ready) c.fetch.ensures.same c.fetch.ensures.cache

pub returns-clause-reads : goal.returns-clause-reads
returns-clause-reads g c = reads_pages _ _ c.fetch.result c.fetch.ensures.same c.fetch.ensures.reads
