use Rattle.std.proofs.Common.{Some, refl, ◌∙◌}
use Rattle.ct_keep.specs.laws.Composing.{reads_hold}
use Rattle.ct_entry.specs.Keys.{at}
use Rattle.tb_table.specs.Tables.{row_at}
use Rattle.tb_table.specs.Spelling.{delete_changes}
use Rattle.ix_indexes.specs.Noting.{all_noted_changes, any_needs_values, noted_indexes}
use Rattle.db_change.specs.Deleting.{going}
use Rattle.db_change.proofs.GoneSteps.{row_made, row_drops, row_shaped}
use Rattle.db_change.proofs.NoteSteps.{is_there, row_here, row_read, shown_short}
use Rattle.db_change.proofs.deleting.row_changes.Goals as goal

pub returns-clause-changes : goal.returns-clause-changes
returns-clause-changes g c = λ m k x holds stands here columns there held.
    let t = c.args.table.now in
    let r = c.args.row.0 in
    let was = c.as_slice-was.result.now in
    let old = c.in_ok-old.old.items in
    let told = going r (row_at m.tables t r) in
    row_made (delete_changes t c.args.columns.now r) (all_noted_changes (at k) told (noted_indexes c.args.indexes.now)) c.new-batch.result c.delete.new.batch c.in_ok-notes.notes c.append.new.self
    c.new-batch.ensures c.in_ok-delete.ensures.ok
    (c.in_ok-notes.ensures.changes k (reads_hold _ _ k c.in_ok-old.ensures.reads holds) held told (record {
      row = refl;
      is = (is_there m t x r here there, refl);
      values = λ matter. (
        row_here m t x r here there ∙ row_read m t x r here there (any_needs_values c.args.indexes.now) was old c.as_slice-was.ensures.value (c.in_ok-old.ensures.values m k x holds stands here columns) matter,
        shown_short was old c.as_slice-was.ensures.value c.in_ok-old.ensures.short,
      );
    }))
    c.in_ok-append.ensures.ok

-- whatever the content is, and whatever was read of it
pub returns-clause-drops : goal.returns-clause-drops
returns-clause-drops g c = λ k holds.
    let r = c.args.row.0 in
    let was = c.as_slice-was.result.now in
    row_drops c.args.table.now c.args.columns.now r c.new-batch.result c.delete.new.batch c.in_ok-notes.notes c.append.new.self c.new-batch.ensures c.in_ok-delete.ensures.ok
    (c.in_ok-notes.ensures.drops k (reads_hold _ _ k c.in_ok-old.ensures.reads holds) tt (going r (Some was)) (record {
      row = refl;
      is = (refl, refl);
      values = λ matter. (refl, shown_short was c.in_ok-old.old.items c.as_slice-was.ensures.value c.in_ok-old.ensures.short);
    }))
    c.in_ok-append.ensures.ok

pub returns-clause-shaped : goal.returns-clause-shaped
returns-clause-shaped g c =
    row_shaped (delete_changes c.args.table.now c.args.columns.now c.args.row.0) c.new-batch.result c.delete.new.batch c.in_ok-notes.notes c.append.new.self
    c.new-batch.ensures c.in_ok-delete.ensures.ok c.in_ok-delete.ensures.shaped c.in_ok-notes.ensures.shaped c.in_ok-append.ensures.ok
