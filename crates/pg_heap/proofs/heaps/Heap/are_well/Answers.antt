use Rattle.std.proofs.Common.{ap, sym, subst, ◌∙◌}
use Rattle.ct_site.specs.laws.Calls.{same_then}
use Rattle.pg_directory.specs.Looking.{DiskHolds}
use Rattle.pg_directory.specs.OpenStore.{ArePlaces, NameAll}
use Rattle.pg_heap.specs.HeapFields.{heap_state}
use Rattle.pg_heap.specs.Heaps.{HeapState, IsReady}
use Rattle.pg_heap.proofs.Loadings.{holds_on}
use Rattle.pg_heap.proofs.States.{leaves_of, places_of, ready_then}
use Rattle.pg_heap.proofs.heaps.Heap.are_well.Goals as goal

pub returns-clause-well : goal.returns-clause-well
returns-clause-well g c = λ s.
    let view = c.self.view_is in
    let top = ap (λ (h : HeapState). h.top) view in
    let old = g.D.Disk.disk c.args.disk.now in
    let holds = subst (λ (h : HeapState). DiskHolds old h.homes h.top s.pages) (sym view) s.holds in
    let places = c.in-Ok.ensures.places c.self.inside.top s.pages holds
    (λ none. subst (ArePlaces s.pages) (sym (c.deref-2.ensures.value ∙ ap (λ (h : HeapState). h.places) view)) (places_of old c.args.self.now s (sym top ∙ none)))
    (λ some. subst (NameAll s.pages) (sym (c.deref.ensures.value ∙ ap (λ (h : HeapState). h.leaves) view)) (leaves_of old c.args.self.now s (λ e. some (top ∙ e)))) in
    c.are_well.ensures.well c.self.inside.top s.pages s.held (holds_on _ _ _ _ s.pages c.all_places.ensures.same holds) s.layout (subst (ArePlaces s.pages) (sym c.deref-3.ensures.value) places)

pub returns-clause-ready : goal.returns-clause-ready
returns-clause-ready g c =
    ready_then (g.D.Disk.disk c.args.disk.now) (g.D.Disk.disk c.are_well.new.disk) (heap_state c.self.inside) c.are_well.new.cache (subst (IsReady (g.D.Disk.disk c.args.disk.now)) (sym c.self.view_is) c.requires)
    (same_then _ _ _ c.all_places.ensures.same c.are_well.ensures.same) c.are_well.ensures.cache

pub returns-in-Err-clause-ready : goal.returns-in-Err-clause-ready
returns-in-Err-clause-ready g c =
    ready_then (g.D.Disk.disk c.args.disk.now) (g.D.Disk.disk c.all_places.new.disk) (heap_state c.self.inside) c.all_places.new.cache (subst (IsReady (g.D.Disk.disk c.args.disk.now)) (sym c.self.view_is) c.requires) c.all_places.ensures.same
    c.all_places.ensures.cache
