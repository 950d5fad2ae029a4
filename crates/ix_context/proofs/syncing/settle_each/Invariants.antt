use Rattle.std.proofs.Common.{◌≡◌, ◌+◌, ◌++◌, drop, map}
use Rattle.ct_entry.specs.Changes.{spell}
use Rattle.ct_entry.specs.Shapes.{AreShaped}
use Rattle.ix_context.specs.Changes.{settle_each_changes}
use Rattle.ix_context.specs.Shapes.{HasContextValue}
use Rattle.ix_context.proofs.syncing.settle_each.Given as goal

abbrev pub invariant-loop-row : goal.invariant-loop-row
invariant-loop-row l = record {
  place : l.document ≡ l.fn.first + l.row-index;
  shaped : AreShaped HasContextValue l.fn.changes → AreShaped HasContextValue l.changes;
  changes : l.changes ++ spell (settle_each_changes l.index l.document (map (λ r. r.0) (drop l.row-index l.rows))) ≡ l.fn.changes ++ spell (settle_each_changes l.index l.fn.first (map (λ r. r.0) l.rows));
}
