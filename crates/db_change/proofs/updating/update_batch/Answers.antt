use Rattle.std.proofs.Common.{ℕ, List, map, ap, ◌∙◌}
use Rattle.ct_base.specs.declared.numbers.RowKey.{RowKey}
use Rattle.ct_keep.specs.laws.Composing.{reads_hold}
use Rattle.ct_entry.specs.Changes.{spell}
use Rattle.tb_table.specs.Rules.{others}
use Rattle.ix_indexes.specs.Noting.{Noted, noted_indexes}
use Rattle.db_change.specs.Noting.{lost_changes}
use Rattle.db_change.specs.Updating.{indexes_set, places_set, update_changes}
use Rattle.db_change.proofs.GoneSteps.{changes_shaped, table_made}
use Rattle.db_change.proofs.NoteSteps.{set_are, set_held}
use Rattle.db_change.proofs.updating.update_batch.Goals as goal

pub returns-clause-batch : goal.returns-clause-batch
returns-clause-batch g c = λ m k x holds stands here columns there.
    let t = c.args.table.now in
    let cs = c.args.columns.now in
    let assigns = c.args.assigns.now in
    let places = places_set cs assigns in
    let es = indexes_set m t cs assigns in
    let rows = map (λ (row : RowKey). row.0) c.args.rows.now in
    let second = reads_hold _ _ k c.in_ok-indexes.ensures.reads holds in
    let third = reads_hold _ _ k c.in_ok-batch.ensures.reads second in
    let found = c.in_ok-indexes.ensures.indexes m k x holds stands here columns in
    let first = ap noted_indexes c.deref.ensures.value ∙ found in
    let again = ap noted_indexes c.deref-2.ensures.value ∙ found in
    table_made (lost_changes k m es rows) (update_changes k m t (others cs) assigns es rows) c.in_ok-batch.batch c.in_ok-changes.changes c.append.new.self
    (c.in_ok-batch.ensures.changes m k second stands (set_are m t places _ first) ∙ ap (λ (ns : List (List ℕ × Noted)). spell (lost_changes k m ns rows)) first)
    (c.in_ok-changes.ensures.batch m k x third stands here columns there (set_held k m t stands places _ again) ∙ ap (λ (ns : List (List ℕ × Noted)). spell (update_changes k m t (others cs) assigns ns rows)) again)
    c.in_ok-append.ensures.ok

pub returns-clause-entries : goal.returns-clause-entries
returns-clause-entries g c = changes_shaped c.in_ok-batch.batch c.in_ok-changes.changes c.append.new.self c.in_ok-batch.ensures.shaped c.in_ok-changes.ensures.entries c.in_ok-append.ensures.ok
