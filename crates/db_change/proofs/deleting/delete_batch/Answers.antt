use Rattle.std.proofs.Common.{ℕ, List, map, ap, ◌∙◌}
use Rattle.ct_base.specs.declared.numbers.RowKey.{RowKey}
use Rattle.ct_keep.specs.laws.Composing.{reads_hold}
use Rattle.ct_entry.specs.Changes.{spell}
use Rattle.ct_entry.specs.Keys.{at}
use Rattle.ix_indexes.specs.Noting.{Noted, noted_indexes}
use Rattle.db_change.specs.Deleting.{gone_rows_changes}
use Rattle.db_change.specs.Noting.{lost_changes, noted_on}
use Rattle.db_change.proofs.GoneSteps.{changes_shaped, table_light, table_made}
use Rattle.db_change.proofs.NoteSteps.{noted_are, on_held}
use Rattle.db_change.proofs.deleting.delete_batch.Goals as goal

pub returns-clause-changes : goal.returns-clause-changes
returns-clause-changes g c = λ m k x holds stands here columns there.
    let t = c.args.table.now in
    let cs = c.args.columns.now in
    let rows = map (λ (row : RowKey). row.0) c.args.rows.now in
    let second = reads_hold _ _ k c.in_ok-indexes.ensures.reads holds in
    let third = reads_hold _ _ k c.in_ok-batch.ensures.reads second in
    let found = c.in_ok-indexes.ensures.indexes m k x holds stands here columns in
    let first = ap noted_indexes c.deref.ensures.value ∙ found in
    let again = ap noted_indexes c.deref-2.ensures.value ∙ found in
    table_made (lost_changes k m (noted_on m.indexes t) rows) (gone_rows_changes (at k) m.tables t cs (noted_on m.indexes t) rows) c.in_ok-batch.batch c.in_ok-changes.changes c.append.new.self
    (c.in_ok-batch.ensures.changes m k second stands (noted_are m t _ first) ∙ ap (λ (es : List (List ℕ × Noted)). spell (lost_changes k m es rows)) first)
    (c.in_ok-changes.ensures.changes m k x third stands here columns there (on_held k m t stands _ again) ∙ ap (λ (es : List (List ℕ × Noted)). spell (gone_rows_changes (at k) m.tables t cs es rows)) again)
    c.in_ok-append.ensures.ok

pub returns-clause-light : goal.returns-clause-light
returns-clause-light g c = λ k holds.
    let second = reads_hold _ _ k c.in_ok-indexes.ensures.reads holds in
    table_light k c.in_ok-batch.batch c.in_ok-changes.changes c.append.new.self (c.in_ok-batch.ensures.light k second) (c.in_ok-changes.ensures.drops k (reads_hold _ _ k c.in_ok-batch.ensures.reads second)) c.in_ok-append.ensures.ok

pub returns-clause-shaped : goal.returns-clause-shaped
returns-clause-shaped g c = changes_shaped c.in_ok-batch.batch c.in_ok-changes.changes c.append.new.self c.in_ok-batch.ensures.shaped c.in_ok-changes.ensures.shaped c.in_ok-append.ensures.ok
