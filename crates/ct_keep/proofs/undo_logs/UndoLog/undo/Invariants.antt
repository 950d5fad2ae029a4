use Rattle.std.proofs.Common.{◌≡◌}
use Rattle.ct_keep.specs.Undoing.{with_values, HaveEntries, replaced_last}
use Rattle.ct_keep.proofs.undo_logs.UndoLog.undo.Given as goal

abbrev pub invariant-loop-key : goal.invariant-loop-key
invariant-loop-key l = record {
  have : HaveEntries (replaced_last l.replaced.items) l.held;
  same : with_values (replaced_last l.replaced.items) l.held ≡ with_values (replaced_last l.fn.self.replaced.items) l.fn.held;
}

abbrev pub decreases-loop-key : goal.decreases-loop-key
decreases-loop-key l = goal.left-loop-key l
