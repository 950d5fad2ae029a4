-- The fields of a heap whose entries may stand in order in a directory.
use Rattle.std.specs.Prelude.{◌≡◌, refl}
use Rattle.pg_heap.specs.declared.heaps.Heap.TheInside.{Inside}
use Rattle.pg_heap.specs.Heaps.{HeapState}

abbrev pub heap_state : Inside → HeapState
heap_state h = record {
  homes = h.journal;
  cache = h.cache;
  top = h.top;
  inner = h.directory.inner.items;
  leaves = h.directory.leaves.items;
  places = h.places.items;
  free = h.hints.free.now;
  weight = h.total;
  counts = h.counts;
}

-- ---- computed example: the top of a heap is the page that its root names
its_top : (h : Inside) → (heap_state h).top ≡ h.top
its_top h = refl
