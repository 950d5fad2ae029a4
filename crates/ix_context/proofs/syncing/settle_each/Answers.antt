use Rattle.std.proofs.Common.{pos, arith}
use Rattle.ix_docmap.specs.Changes.{map_settle_changes}
use Rattle.ix_context.proofs.MarkSteps.{row_added, rows_left}
use Rattle.ix_context.proofs.syncing.settle_each.Goals as goal

pub loop-row-preserved : goal.loop-row-preserved
loop-row-preserved c =
    let left = rows_left c.args.rows.now c.loop-row.row-index (record { 0 = pos 0 }) c.loop-row-test.true in
    record {
      place = let place = c.loop-row.invariant.place in omega arith;
      shaped = λ are. c.in_ok-settle_row.ensures.shaped (c.loop-row.invariant.shaped are);
      changes = row_added (map_settle_changes c.args.index.now) _ c.loop-row.changes c.settle_row.new.changes c.loop-row.document _ _ _ c.loop-row.invariant.changes left c.in_ok-settle_row.ensures.changes;
    }
