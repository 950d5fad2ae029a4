use Rattle.std.proofs.Common.{◌≡◌, length}
use Rattle.std.specs.Prelude.{sum}
use Rattle.std.specs.Vec.Iter.{into_iter_items}
use Rattle.ct_keep.specs.KeyLists.{cut_keys}
use Rattle.ct_keep.specs.Undoing.{without_keys}
use Rattle.ct_keep.proofs.key_lists.KeyList.take_from.Given as goal

abbrev pub invariant-loop-length : goal.invariant-loop-length
invariant-loop-length l = record {
  can_next : (goal.iterator-loop-length).can_next l.length-iterator;
  is_finite : (goal.iterator-loop-length).is_finite l.length-iterator;
  long : length l.rest ≡ sum (into_iter_items l.length-iterator);
  same : without_keys (cut_keys (into_iter_items l.length-iterator) l.rest) l.held ≡ without_keys l.fn.self l.fn.held;
}
