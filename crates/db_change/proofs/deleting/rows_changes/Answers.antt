use Rattle.std.proofs.Common.{pos, get_or, refl}
use Rattle.ct_base.specs.declared.numbers.RowKey.{RowKey}
use Rattle.ct_keep.specs.laws.Composing.{reads_on, reads_hold}
use Rattle.ct_entry.specs.Keys.{at}
use Rattle.ix_indexes.specs.Noting.{noted_indexes}
use Rattle.db_change.specs.Deleting.{gone_row_changes}
use Rattle.db_change.proofs.GoneSteps.{each_more, each_whole, changes_added, changes_drop, changes_shaped, there_at}
use Rattle.db_change.proofs.deleting.rows_changes.Goals as goal

pub loop-row-preserved : goal.loop-row-preserved
loop-row-preserved g c =
    let rows = c.args.rows.now in
    let i = c.loop-row.row-index in
    let row = get_or rows i (record { 0 = pos 0 }) in
    record {
      reads = reads_on _ _ _ _ c.loop-row.invariant.reads c.in_ok-changes.ensures.reads;
      changes = λ m k x holds stands here columns there held.
          each_more (gone_row_changes (at k) m.tables c.args.table.now c.args.columns.now (noted_indexes c.args.indexes.now)) (λ (row : RowKey). row.0) rows i row (record { 0 = pos 0 }) c.loop-row.batch c.append.new.self c.loop-row-test.true refl
          (c.loop-row.invariant.changes m k x holds stands here columns there held)
          (changes_added c.loop-row.batch c.in_ok-changes.changes c.append.new.self _ (c.in_ok-changes.ensures.changes m k x (reads_hold _ _ k c.loop-row.invariant.reads holds) stands here columns (there_at x rows i c.loop-row-test.true there) held) c.in_ok-append.ensures.ok);
      drops = λ k holds. changes_drop c.loop-row.batch c.in_ok-changes.changes c.append.new.self (c.loop-row.invariant.drops k holds) (c.in_ok-changes.ensures.drops k (reads_hold _ _ k c.loop-row.invariant.reads holds)) c.in_ok-append.ensures.ok;
      shaped = changes_shaped c.loop-row.batch c.in_ok-changes.changes c.append.new.self c.loop-row.invariant.shaped c.in_ok-changes.ensures.shaped c.in_ok-append.ensures.ok;
    }

pub returns-clause-changes : goal.returns-clause-changes
returns-clause-changes g c = λ m k x holds stands here columns there held.
    each_whole (gone_row_changes (at k) m.tables c.args.table.now c.args.columns.now (noted_indexes c.args.indexes.now)) (λ (row : RowKey). row.0) c.args.rows.now c.loop-row.row-index c.loop-row.batch c.loop-row-test.false (c.loop-row.invariant.changes m k x holds stands here columns there held)
