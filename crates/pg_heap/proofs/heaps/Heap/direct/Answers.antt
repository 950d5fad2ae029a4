use Rattle.std.specs.Prelude.{Err, ℕ, List, drop}
use Rattle.std.specs.declared.alloc.Global.{Global}
use Rattle.std.proofs.Common.{Vec, ◌≡◌, refl, sym, ap, subst, ◌∙◌, arith}
use Rattle.pg_change.specs.Resting.{IsResting}
use Rattle.pg_directory.specs.Making.{new_pages}
use Rattle.pg_window.specs.declared.sheets.Sheet.{Sheet}
use Rattle.pg_plan.specs.FreePlaces.{FreePlaces}
use Rattle.pg_heap.specs.HeapFields.{heap_state}
use Rattle.pg_heap.specs.Directs.{directed_state, IsReadyUnlessDisk}
use Rattle.pg_heap.specs.Heaps.{HeapState, HeapStands, IsReady}
use Rattle.pg_heap.proofs.DirectStates.{map_stays, direct_moves, holds_there, direct_holds, ready_directed, ready_err}
use Rattle.pg_heap.proofs.heaps.Heap.direct.Goals as goal

pub returns-then-is_directed-clause-moments : goal.returns-then-is_directed-clause-moments
returns-then-is_directed-clause-moments g c = λ s. map_stays (g.D.Disk.disk c.args.disk.now) c.args.self.now s (omega (arith, c.top_named-top.ensures.is, c.top_named-top.ensures.small))

pub returns-then-is_directed-clause-stands : goal.returns-then-is_directed-clause-stands
returns-then-is_directed-clause-stands g c = λ s. (s, refl)

pub returns-in_default-clause-moments : goal.returns-in_default-clause-moments
returns-in_default-clause-moments g c = λ s. map_stays (g.D.Disk.disk c.args.disk.now) c.args.self.now s (omega (arith, c.top_named-top.ensures.is, c.top_named-top.ensures.small))

pub returns-in-Ok-direct_store-clause-moments : goal.returns-in-Ok-direct_store-clause-moments
returns-in-Ok-direct_store-clause-moments g c =
    let homes = ap (λ (h : HeapState). h.homes) c.self.view_is in
    let places = c.deref.ensures.value ∙ ap (λ (h : HeapState). h.places) c.self.view_is in
    let free = c.deref-2.ensures.value ∙ c.in-Ok.ensures ∙ ap (λ (h : HeapState). h.free) c.self.view_is in
    let none = c.if-is_directed.ensures.none refl in
    direct_moves (g.D.Disk.disk c.args.disk.now) (g.D.Disk.disk c.direct_store.new.disk) c.args.self.now c.self.inside.journal c.deref.result.now c.deref-2.result.now homes places free none c.direct_store.ensures.moments

pub returns-in-Ok-direct_store-clause-stands : goal.returns-in-Ok-direct_store-clause-stands
returns-in-Ok-direct_store-clause-stands g c = λ s.
    let homes = ap (λ (h : HeapState). h.homes) c.self.view_is in
    let places = c.deref.ensures.value ∙ ap (λ (h : HeapState). h.places) c.self.view_is in
    let free = c.deref-2.ensures.value ∙ c.in-Ok.ensures ∙ ap (λ (h : HeapState). h.free) c.self.view_is in
    let none = c.if-is_directed.ensures.none refl in
    let left = ap (λ (f : FreePlaces). f.now) c.drop_first.ensures ∙ ap (λ (n : ℕ). drop n c.self.inside.hints.free.now) c.pages_taken.ensures in
    let next = ap (λ (h : HeapState). record (directed_state c.in-Ok-direct_store.made h) { homes = c.direct_store.new.journal; cache = c.direct_store.new.cache }) (sym c.self.view_is)
    ∙ ap (λ (f : List ℕ). record (directed_state c.in-Ok-direct_store.made (heap_state c.self.inside)) { homes = c.direct_store.new.journal; cache = c.direct_store.new.cache; free = f }) (sym left) ∙ sym c.adopt.ensures in
    subst (λ (n : HeapState). (x : HeapStands (g.D.Disk.disk c.direct_store.new.disk) n) × (x.held ≡ s.held)) next
    (direct_holds (g.D.Disk.disk c.args.disk.now) (g.D.Disk.disk c.direct_store.new.disk) c.args.self.now c.self.inside.journal c.deref.result.now c.deref-2.result.now homes places free none
    c.direct_store.new.journal c.direct_store.new.cache c.in-Ok-direct_store.made c.in-Ok-direct_store.ensures.stands s)

pub returns-in-Ok-direct_store-clause-ready : goal.returns-in-Ok-direct_store-clause-ready
returns-in-Ok-direct_store-clause-ready g c =
    let homes = ap (λ (h : HeapState). h.homes) c.self.view_is in
    let places = c.deref.ensures.value ∙ ap (λ (h : HeapState). h.places) c.self.view_is in
    let free = c.deref-2.ensures.value ∙ c.in-Ok.ensures ∙ ap (λ (h : HeapState). h.free) c.self.view_is in
    let none = c.if-is_directed.ensures.none refl in
    let left = ap (λ (f : FreePlaces). f.now) c.drop_first.ensures ∙ ap (λ (n : ℕ). drop n c.self.inside.hints.free.now) c.pages_taken.ensures in
    let next = ap (λ (h : HeapState). record (directed_state c.in-Ok-direct_store.made h) { homes = c.direct_store.new.journal; cache = c.direct_store.new.cache }) (sym c.self.view_is)
    ∙ ap (λ (f : List ℕ). record (directed_state c.in-Ok-direct_store.made (heap_state c.self.inside)) { homes = c.direct_store.new.journal; cache = c.direct_store.new.cache; free = f }) (sym left) ∙ sym c.adopt.ensures in
    subst (IsReady (g.D.Disk.disk c.direct_store.new.disk)) next
    (ready_directed (g.D.Disk.disk c.args.disk.now) (g.D.Disk.disk c.direct_store.new.disk) c.args.self.now c.direct_store.new.journal c.direct_store.new.cache c.in-Ok-direct_store.made none c.requires
    c.direct_store.ensures.commits.untold c.in-Ok-direct_store.ensures.cache
    (holds_there (g.D.Disk.disk c.args.disk.now) (g.D.Disk.disk c.direct_store.new.disk) c.args.self.now c.self.inside.journal c.deref.result.now c.deref-2.result.now homes places free none c.direct_store.new.journal c.in-Ok-direct_store.made c.in-Ok-direct_store.ensures.stands))

pub returns-clause-moments : goal.returns-clause-moments
returns-clause-moments g c =
    let homes = ap (λ (h : HeapState). h.homes) c.self.view_is in
    let places = c.deref.ensures.value ∙ ap (λ (h : HeapState). h.places) c.self.view_is in
    let free = c.deref-2.ensures.value ∙ c.in-Ok.ensures ∙ ap (λ (h : HeapState). h.free) c.self.view_is in
    let none = c.if-is_directed.ensures.none refl in
    direct_moves (g.D.Disk.disk c.args.disk.now) (g.D.Disk.disk c.direct_store.new.disk) c.args.self.now c.self.inside.journal c.deref.result.now c.deref-2.result.now homes places free none c.direct_store.ensures.moments

pub returns-clause-ready : goal.returns-clause-ready
returns-clause-ready g c =
    let next = ap (λ (h : HeapState). record h { homes = c.direct_store.new.journal; cache = c.direct_store.new.cache }) (sym c.self.view_is) in
    subst (IsReadyUnlessDisk {T = Unit {0}} (Err c.in-Err.fault) (g.D.Disk.disk c.direct_store.new.disk)) next
    (ready_err (Unit {0}) c.in-Err.fault (g.D.Disk.disk c.args.disk.now) (g.D.Disk.disk c.direct_store.new.disk) c.args.self.now c.direct_store.new.journal c.direct_store.new.cache c.requires
    (c.in-Err.ensures.err ∙ ap (λ (h : HeapState). h.homes) c.self.view_is)
    (λ e. let m = c.direct_store.ensures.memory (c.in-Err.is ∙ ap Err e) in (m.0, m.1 ∙ ap (λ (h : HeapState). h.cache) c.self.view_is))
    (λ e. c.direct_store.ensures.full (c.in-Err.is ∙ ap Err e)))

pub invariant_of-self : goal.invariant_of-self
invariant_of-self g c =
    let left = ap (λ (f : FreePlaces). f.now) c.drop_first.ensures ∙ ap (λ (n : ℕ). drop n c.self.inside.hints.free.now) c.pages_taken.ensures in
    subst (λ (f : List ℕ). IsResting c.direct_store.new.sheets.items c.direct_store.new.journal f)
    (ap (λ (f : List ℕ). drop (new_pages c.in-Ok-direct_store.made) f) (c.deref-2.ensures.value ∙ c.in-Ok.ensures) ∙ sym left) c.in-Ok-direct_store.ensures.rests

pub invariant_of-self-in-Err : goal.invariant_of-self-in-Err
invariant_of-self-in-Err g c =
    subst (λ (v : Vec Sheet Global). IsResting v.items c.direct_store.new.journal c.self.inside.hints.free.now) (sym c.in-Err.ensures.kept)
    (subst (λ (h : ℕ). IsResting c.self.inside.sheets.items h c.self.inside.hints.free.now) (sym c.in-Err.ensures.err) c.self.invariant)
