use Rattle.std.specs.Prelude.{Err, Ok, map}
use Rattle.std.proofs.Common.{◌≡◌, ◌<◌, ◌^◌, ℕ, List, refl, sym, ap, subst, ◌∙◌, arith}
use Rattle.ct_site.specs.Disks.{Leaves}
use Rattle.ct_site.specs.laws.Calls.{same_then}
use Rattle.ct_keep.specs.Content.{Content, after, weight}
use Rattle.ct_keep.specs.KeeperViews.{PassesLimit}
use Rattle.ct_keep.specs.SeenChanges.{change_of}
use Rattle.ct_keep.specs.declared.keepers.KeepFault.TheVariants.{Full}
use Rattle.pg_batch.specs.Asking.{IsAsked}
use Rattle.pg_directory.specs.Trees.{StorePage}
use Rattle.pg_window.specs.Sheets.{sheet_kinds}
use Rattle.pg_window.specs.laws.Loads.{window_on}
use Rattle.pg_plan.specs.FreePlaces.{ListsFree}
use Rattle.pg_heap.specs.Applying.{IsEitherMap, Applies}
use Rattle.pg_heap.specs.BatchLengths.{EndsWithin}
use Rattle.pg_heap.specs.Batching.{first_draft, IsBatchBegun, IsBatchMade}
use Rattle.pg_heap.specs.laws.BatchLengths.{ends_read, ends_by_key}
use Rattle.pg_heap.specs.HeapFields.{heap_state}
use Rattle.pg_heap.specs.Heaps.{HeapState, HeapStands, IsReady}
use Rattle.pg_heap.proofs.Applies.{answers_read, applies_as, applies_read, over_asked, over_seen}
use Rattle.pg_heap.proofs.Begins.{listed_loaded, over_loaded}
use Rattle.pg_heap.proofs.Loadings.{reads_both}
use Rattle.pg_heap.proofs.Makes.{applies_made, applies_failed, made_stands, made_directed, state_with, unchanged_by}
use Rattle.pg_heap.proofs.heaps.Heap.apply_within.Given.{Over}
use Rattle.pg_heap.proofs.heaps.Heap.apply_within.Goals as goal
use Rattle.pg_heap.proofs.heaps.Heap.apply_within.Goals.{After-write_batch}

-- ---- what the batch asks for wasn't read, or is over the limit

pub returns-in-Err-clause-applies : goal.returns-in-Err-clause-applies
returns-in-Err-clause-applies g c =
    let heap = heap_state c.self.inside in
    let view = c.self.view_is in
    let old = g.D.Disk.disk c.args.disk.now in
    let new = g.D.Disk.disk c.ask.new.disk in
    let top_is : heap.top ≡ c.top_named-top.result = ap (λ (h : HeapState). h.top) view ∙ sym c.top_named-top.ensures.is in
    let fits : heap.top < 2 ^ 32 = let small = c.top_named-top.ensures.small in omega (arith, top_is, small) in
    (subst (λ (h : HeapState). Applies {T = Unit {0}} c.args.batch old new h (record heap { cache = c.ask.new.cache }) (Err c.in-Err.fault)) view
    (applies_read c.args.batch old new heap c.ask.new.cache c.in-Err.fault (subst (IsReady old) (sym view) c.requires.ready) fits c.ask.ensures.same c.in-Err.ensures.reads c.ask.ensures.cache))

pub returns-in-Err-clause-answers : goal.returns-in-Err-clause-answers
returns-in-Err-clause-answers g c = λ s.
    (answers_read c.in-Err.fault c.args.limit s.held (after c.args.batch s.held)
    (λ is. (over_asked (g.D.Disk.disk c.args.disk.now) (heap_state c.self.inside) c.args.self.now c.self.view_is c.requires.directed c.top_named-top.result c.top_named-top.ensures.is
    (λ (pages : List StorePage) (m : Content). PassesLimit c.args.limit m (after c.args.batch m) × (weight (after c.args.batch m) < 2 ^ 64)) (λ pages m holds finds layout weighs. c.in-Err.ensures.full pages m holds finds layout weighs (ap Err is)) s).0))

pub returns-in-Err-clause-fits : goal.returns-in-Err-clause-fits
returns-in-Err-clause-fits g c = λ s is.
    let same : c.in-Err.fault ≡ Full = cc is in
    (over_asked (g.D.Disk.disk c.args.disk.now) (heap_state c.self.inside) c.args.self.now c.self.view_is c.requires.directed c.top_named-top.result c.top_named-top.ensures.is
    (λ (pages : List StorePage) (m : Content). PassesLimit c.args.limit m (after c.args.batch m) × (weight (after c.args.batch m) < 2 ^ 64)) (λ pages m holds finds layout weighs. c.in-Err.ensures.full pages m holds finds layout weighs (ap Err same)) s).1

-- ---- the pages that it begins with weren't brought into memory

pub returns-in-Err-begin_batch-clause-applies : goal.returns-in-Err-begin_batch-clause-applies
returns-in-Err-begin_batch-clause-applies g c =
    let heap = heap_state c.self.inside in
    let view = c.self.view_is in
    let old = g.D.Disk.disk c.args.disk.now in
    let mid = g.D.Disk.disk c.ask.new.disk in
    let new = g.D.Disk.disk c.begin_batch.new.disk in
    let top_is : heap.top ≡ c.top_named-top.result = ap (λ (h : HeapState). h.top) view ∙ sym c.top_named-top.ensures.is in
    let fits : heap.top < 2 ^ 32 = let small = c.top_named-top.ensures.small in omega (arith, top_is, small) in
    (subst (λ (l : List ℕ). Applies {T = Unit {0}} c.args.batch old new c.args.self.now (record heap { cache = c.begin_batch.new.cache; free = l }) (Err c.in-Err-begin_batch.fault)) (sym c.begin_batch.ensures.free)
    (subst (λ (h : HeapState). Applies {T = Unit {0}} c.args.batch old new h (record heap { cache = c.begin_batch.new.cache }) (Err c.in-Err-begin_batch.fault)) view
    (applies_read c.args.batch old new heap c.begin_batch.new.cache c.in-Err-begin_batch.fault (subst (IsReady old) (sym view) c.requires.ready) fits (same_then old mid new c.ask.ensures.same c.begin_batch.ensures.same)
    (reads_both old mid new c.in-Ok.asked (Err c.in-Err-begin_batch.fault) c.in-Ok.ensures.reads c.in-Err-begin_batch.ensures.reads) c.begin_batch.ensures.cache)))

pub returns-in-Err-begin_batch-clause-answers : goal.returns-in-Err-begin_batch-clause-answers
returns-in-Err-begin_batch-clause-answers g c = λ s.
    (answers_read c.in-Err-begin_batch.fault c.args.limit s.held (after c.args.batch s.held) (λ is. absurd (c.in-Err-begin_batch.ensures.full (ap Err is))))

-- ---- what holds of the batch that has begun

over : (g : Over) (c : After-write_batch g) (P : Content → Type 0)
    → ((b : IsBatchBegun (g.D.Disk.disk c.begin_batch.new.disk) c.self.inside.journal c.top_named-top.result c.self.inside.directory (map change_of c.in-Ok.asked.changes.items) c.in-Ok.asked.places.items c.in-Ok-begin_batch.begun.places.items (first_draft c.begin_batch.new.sheets.items) c.self.inside.counts)
    → P b.held) → (s : HeapStands (g.D.Disk.disk c.args.disk.now) (heap_state c.self.inside)) → P s.held
over g c =
    let heap = heap_state c.self.inside in
    let view = c.self.view_is in
    let old = g.D.Disk.disk c.args.disk.now in
    let read = g.D.Disk.disk c.ask.new.disk in
    let mid = g.D.Disk.disk c.begin_batch.new.disk in
    let top_is : heap.top ≡ c.top_named-top.result = ap (λ (h : HeapState). h.top) view ∙ sym c.top_named-top.ensures.is in
    let fits : heap.top < 2 ^ 32 = let small = c.top_named-top.ensures.small in omega (arith, top_is, small) in
    let asked = over_asked old heap c.args.self.now view c.requires.directed c.top_named-top.result c.top_named-top.ensures.is (λ (pages : List StorePage) (m : Content). IsAsked pages m c.args.batch c.args.limit c.in-Ok.asked) c.in-Ok.ensures.asked in
    over_loaded old mid heap c.args.self.now view c.self.inside.directory refl refl c.requires.directed fits c.self.inside.sheets.items c.begin_batch.new.sheets.items c.self.invariant (map change_of c.in-Ok.asked.changes.items) c.in-Ok.asked.places.items c.in-Ok.asked.places.items c.in-Ok-begin_batch.begun.places.items
    c.in-Ok.ensures.by_key.rise (λ s. (asked s).places) (same_then old read mid c.ask.ensures.same c.begin_batch.ensures.same) 18446744073709551615 refl c.in-Ok-begin_batch.ensures.places
    (λ top pages m w. c.in-Ok-begin_batch.ensures.window top pages m (window_on old read heap.homes top pages m c.self.inside.sheets.items c.ask.ensures.same w))
    (λ top pages m w. c.in-Ok-begin_batch.ensures.there top pages m (window_on old read heap.homes top pages m c.self.inside.sheets.items c.ask.ensures.same w)) c.top_named-top.result top_is

-- ---- it was committed, or not

pub write_batch-requires-clause-listed : goal.write_batch-requires-clause-listed
write_batch-requires-clause-listed g c =
    subst (ListsFree (sheet_kinds c.begin_batch.new.sheets.items)) (sym c.begin_batch.ensures.free) (listed_loaded c.self.invariant c.in-Ok-begin_batch.ensures.loads)

pub returns-in-Ok-write_batch-clause-applies : goal.returns-in-Ok-write_batch-clause-applies
returns-in-Ok-write_batch-clause-applies g c =
    let heap = heap_state c.self.inside in
    let view = c.self.view_is in
    let ws = map change_of c.in-Ok.asked.changes.items in
    let old = g.D.Disk.disk c.args.disk.now in
    let read = g.D.Disk.disk c.ask.new.disk in
    let mid = g.D.Disk.disk c.begin_batch.new.disk in
    let new = g.D.Disk.disk c.write_batch.new.disk in
    let by_key = c.in-Ok.ensures.by_key in
    let same = same_then old read mid c.ask.ensures.same c.begin_batch.ensures.same in
    let top_is : heap.top ≡ c.top_named-top.result = ap (λ (h : HeapState). h.top) view ∙ sym c.top_named-top.ensures.is in
    let fits : heap.top < 2 ^ 32 = let small = c.top_named-top.ensures.small in omega (arith, top_is, small) in
    let asked = over_asked old heap c.args.self.now view c.requires.directed c.top_named-top.result c.top_named-top.ensures.is (λ (pages : List StorePage) (m : Content). IsAsked pages m c.args.batch c.args.limit c.in-Ok.asked) c.in-Ok.ensures.asked in
    let heap' = state_with c.write_batch.new.journal c.write_batch.new.cache c.in-Ok-write_batch.top c.in-Ok-write_batch.directory c.new.result.items c.write_batch.new.hints.free.now c.in-Ok.asked.total c.write_batch.new.counts in
    applies_as c.args.batch ws old new c.args.self.now heap' (Ok tt) by_key.makes
    (subst (λ (h : HeapState). Applies {T = Unit {0}} ws old new h heap' (Ok tt)) view
    (applies_made c.in-Ok-begin_batch.begun ws old mid new heap heap' (subst (IsReady old) (sym view) c.requires.ready) fits same (reads_both old read mid c.in-Ok.asked (Ok c.in-Ok-begin_batch.begun) c.in-Ok.ensures.reads c.in-Ok-begin_batch.ensures.reads)
    (over g (goal.at.returns-in-Ok-write_batch-clause-applies g c).After-write_batch (λ (m : Content). Leaves mid new (IsEitherMap m (after ws m))) c.write_batch.ensures.moments)
    (c.in-Ok-write_batch.top, c.in-Ok-write_batch.directory) tt
    (λ s. made_stands new c.write_batch.new.journal c.write_batch.new.cache c.in-Ok-write_batch.top c.in-Ok-write_batch.directory c.new.result.items c.write_batch.new.hints.free.now c.in-Ok.asked.total c.write_batch.new.counts (after ws s.held) c.new.ensures.items
    (over_seen old heap c.args.self.now view (λ (m : Content). c.in-Ok.asked.total ≡ weight (after ws m)) (λ t. (asked t).total ∙ ap weight (sym (by_key.makes t.held))) s)
    (over g (goal.at.returns-in-Ok-write_batch-clause-applies g c).After-write_batch (λ (m : Content). IsBatchMade new c.write_batch.new.journal (after ws m) c.write_batch.new.hints.free.now c.write_batch.new.counts c.in-Ok-write_batch.top c.in-Ok-write_batch.directory) c.in-Ok-write_batch.ensures.made s))
    c.in-Ok-write_batch.ensures.cache (made_directed c.write_batch.new.journal c.write_batch.new.cache c.in-Ok-write_batch.top c.in-Ok-write_batch.directory c.new.result.items c.write_batch.new.hints.free.now c.in-Ok.asked.total c.write_batch.new.counts c.new.ensures.items)
    c.in-Ok-write_batch.ensures.commits))

pub returns-in-Ok-write_batch-clause-answers : goal.returns-in-Ok-write_batch-clause-answers
returns-in-Ok-write_batch-clause-answers g c = λ s.
    (over_asked (g.D.Disk.disk c.args.disk.now) (heap_state c.self.inside) c.args.self.now c.self.view_is c.requires.directed c.top_named-top.result c.top_named-top.ensures.is
    (λ (pages : List StorePage) (m : Content). IsAsked pages m c.args.batch c.args.limit c.in-Ok.asked) c.in-Ok.ensures.asked s).within

pub returns-clause-applies : goal.returns-clause-applies
returns-clause-applies g c =
    let heap = heap_state c.self.inside in
    let view = c.self.view_is in
    let ws = map change_of c.in-Ok.asked.changes.items in
    let old = g.D.Disk.disk c.args.disk.now in
    let read = g.D.Disk.disk c.ask.new.disk in
    let mid = g.D.Disk.disk c.begin_batch.new.disk in
    let new = g.D.Disk.disk c.write_batch.new.disk in
    let by_key = c.in-Ok.ensures.by_key in
    let same = same_then old read mid c.ask.ensures.same c.begin_batch.ensures.same in
    let top_is : heap.top ≡ c.top_named-top.result = ap (λ (h : HeapState). h.top) view ∙ sym c.top_named-top.ensures.is in
    let fits : heap.top < 2 ^ 32 = let small = c.top_named-top.ensures.small in omega (arith, top_is, small) in
    let asked = over_asked old heap c.args.self.now view c.requires.directed c.top_named-top.result c.top_named-top.ensures.is (λ (pages : List StorePage) (m : Content). IsAsked pages m c.args.batch c.args.limit c.in-Ok.asked) c.in-Ok.ensures.asked in
    let free : c.write_batch.new.hints.free.now ≡ heap.free = c.in-Err-write_batch.ensures.free ∙ c.begin_batch.ensures.free in
    let heap' : HeapState = record heap { homes = c.write_batch.new.journal; cache = c.write_batch.new.cache; free = c.write_batch.new.hints.free.now; counts = c.write_batch.new.counts } in
    (applies_as c.args.batch ws old new c.args.self.now heap' (Err c.in-Err-write_batch.fault) by_key.makes
    (subst (λ (h : HeapState). Applies {T = Unit {0}} ws old new h heap' (Err c.in-Err-write_batch.fault)) view
    (applies_failed c.in-Ok-begin_batch.begun ws old mid new heap heap' (subst (IsReady old) (sym view) c.requires.ready) fits same (reads_both old read mid c.in-Ok.asked (Ok c.in-Ok-begin_batch.begun) c.in-Ok.ensures.reads c.in-Ok-begin_batch.ensures.reads)
    (over g (goal.at.returns-clause-applies g c).After-write_batch (λ (m : Content). Leaves mid new (IsEitherMap m (after ws m))) c.write_batch.ensures.moments)
    c.in-Err-write_batch.fault
    (unchanged_by heap c.write_batch.new.journal c.write_batch.new.cache c.write_batch.new.hints.free.now c.write_batch.new.counts c.in-Err-write_batch.ensures.err free c.in-Err-write_batch.ensures.counts)
    (λ is. c.in-Err-write_batch.ensures.memory (ap Err is)) (λ is. c.in-Err-write_batch.ensures.full (ap Err is)) c.in-Err-write_batch.ensures.commits)))

pub returns-clause-answers : goal.returns-clause-answers
returns-clause-answers g c = λ s.
    (answers_read c.in-Err-write_batch.fault c.args.limit s.held (after c.args.batch s.held) (λ is. absurd (c.in-Err-write_batch.ensures.full (ap Err is))))

-- ---- how long the file is

pub returns-in-Err-clause-ends : goal.returns-in-Err-clause-ends
returns-in-Err-clause-ends g c = λ s. ends_read c.args.self.now.homes c.args.self.now.free c.args.batch s.held (g.D.Disk.disk c.args.disk.now) (g.D.Disk.disk c.ask.new.disk) c.ask.ensures.same

pub returns-in-Err-begin_batch-clause-ends : goal.returns-in-Err-begin_batch-clause-ends
returns-in-Err-begin_batch-clause-ends g c = λ s. ends_read c.args.self.now.homes c.args.self.now.free c.args.batch s.held (g.D.Disk.disk c.args.disk.now) (g.D.Disk.disk c.begin_batch.new.disk)
    (same_then (g.D.Disk.disk c.args.disk.now) (g.D.Disk.disk c.ask.new.disk) (g.D.Disk.disk c.begin_batch.new.disk) c.ask.ensures.same c.begin_batch.ensures.same)

ends : (g : Over) (c : After-write_batch g) → (s : HeapStands (g.D.Disk.disk c.args.disk.now) c.args.self.now) → EndsWithin c.args.self.now.homes c.args.self.now.free c.args.batch s.held (g.D.Disk.disk c.args.disk.now) (g.D.Disk.disk c.write_batch.new.disk)
ends g c =
    let heap = heap_state c.self.inside in
    let ws = map change_of c.in-Ok.asked.changes.items in
    let old = g.D.Disk.disk c.args.disk.now in
    let read = g.D.Disk.disk c.ask.new.disk in
    let mid = g.D.Disk.disk c.begin_batch.new.disk in
    let new = g.D.Disk.disk c.write_batch.new.disk in
    subst (λ (h : HeapState). (s : HeapStands old h) → EndsWithin h.homes h.free c.args.batch s.held old new) c.self.view_is (λ s.
    ends_by_key heap.homes heap.free c.args.batch ws s.held old mid new c.in-Ok.ensures.by_key (same_then old read mid c.ask.ensures.same c.begin_batch.ensures.same)
    (over g c (λ (m : Content). EndsWithin heap.homes heap.free ws m mid new) (λ b. subst (λ (f : List ℕ). EndsWithin heap.homes f ws b.held mid new) c.begin_batch.ensures.free (c.write_batch.ensures.ends b)) s))

pub returns-clause-ends : goal.returns-clause-ends
returns-clause-ends g c = ends g (goal.at.returns-clause-ends g c).After-write_batch

pub returns-in-Ok-write_batch-clause-ends : goal.returns-in-Ok-write_batch-clause-ends
returns-in-Ok-write_batch-clause-ends g c = ends g (goal.at.returns-in-Ok-write_batch-clause-ends g c).After-write_batch
