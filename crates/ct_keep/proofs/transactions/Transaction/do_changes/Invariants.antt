use Rattle.std.proofs.Common.{◌≡◌, ◌+◌, ◌*◌, ◌^◌, ◌≤◌, length, map}
use Rattle.std.specs.Vec.Iter.{into_iter_items}
use Rattle.ct_keep.specs.SeenChanges.{change_of}
use Rattle.ct_keep.specs.Content.{after, weight}
use Rattle.ct_keep.proofs.transactions.Transaction.do_changes.Given as goal

abbrev pub invariant-loop-change : goal.invariant-loop-change
invariant-loop-change l = record {
  can_next : (goal.iterator-loop-change).can_next l.change-iterator;
  is_finite : (goal.iterator-loop-change).is_finite l.change-iterator;
  before : l.self.before ≡ l.fn.self.before;
  seen : after (map change_of (into_iter_items l.change-iterator)) l.self.seen ≡ after (map change_of l.fn.changes.items) l.fn.self.seen;
  bounded : weight l.self.seen + 2 ^ 64 * length (into_iter_items l.change-iterator) ≤ 2 ^ 64 * (length l.fn.changes.items + 1);
}
