use Rattle.std.proofs.Common.{◌≡◌, ◌+◌, ◌++◌, drop, map}
use Rattle.ct_entry.specs.Changes.{spell}
use Rattle.ct_entry.specs.Shapes.{AreShaped}
use Rattle.ix_context.specs.Changes.{mark_each_changes}
use Rattle.ix_context.specs.Shapes.{HasContextValue}
use Rattle.ix_context.proofs.creating.mark_each.Given as goal

abbrev pub invariant-loop-row : goal.invariant-loop-row
invariant-loop-row l = record {
  place : l.document ≡ 1 + l.row-index;
  shaped : AreShaped HasContextValue l.fn.changes → AreShaped HasContextValue l.changes;
  changes : l.changes ++ spell (mark_each_changes l.index l.document (map (λ r. r.0) (drop l.row-index l.rows))) ≡ l.fn.changes ++ spell (mark_each_changes l.index 1 (map (λ r. r.0) l.rows));
}
