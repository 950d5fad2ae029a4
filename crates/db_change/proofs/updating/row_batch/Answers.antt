use Rattle.std.proofs.Common.{ℕ, ℤ, List, ◌++◌, Option, ap, sym, ◌∙◌}
use Rattle.ct_base.specs.declared.lists.Value.{Value}
use Rattle.ct_keep.specs.laws.Composing.{reads_hold}
use Rattle.ct_entry.specs.Keys.{at}
use Rattle.ct_entry.specs.Changes.{spell}
use Rattle.ct_entry.specs.laws.Changes.{spell-append}
use Rattle.tb_table.specs.declared.columns.Column.{Column}
use Rattle.tb_table.specs.Rules.{others}
use Rattle.tb_table.specs.Tables.{numbers_of, row_at}
use Rattle.ix_indexes.specs.Noting.{all_noted_changes, noted_indexes}
use Rattle.db_rows.specs.Values.{row_values}
use Rattle.db_change.specs.Updating.{changing, value_changes}
use Rattle.db_change.proofs.NoteSteps.{row_here}
use Rattle.db_change.proofs.ShapeSteps.{row_and_notes}
use Rattle.db_change.proofs.UpdateSteps.{few_others}
use Rattle.db_change.proofs.updating.row_batch.Goals as goal

pub returns-clause-batch : goal.returns-clause-batch
returns-clause-batch g c = λ m k x holds stands here columns there held.
    let t = c.args.table.now in
    let r = c.args.row.0 in
    let cs = others c.args.columns.now in
    let assigns = c.args.assigns.now in
    let es = noted_indexes c.args.indexes.now in
    let own = value_changes t cs assigns (numbers_of (row_values m.tables t r)) r in
    let notes = all_noted_changes (at k) (changing cs assigns r (row_at m.tables t r)) es in
    let first =
    c.in_ok-batch.ensures.changes
    ∙ ap (λ (ds : List Column). spell (value_changes t ds assigns c.deref.result.now r)) c.behind_key-behind.ensures
    ∙ ap (λ (ns : List ℤ). spell (value_changes t cs assigns ns r)) (c.deref.ensures.value ∙ c.in_ok-numbers.ensures.numbers m k holds stands) in
    let told =
    c.in_ok-notes.ensures.notes m k x (reads_hold _ _ k c.in_ok-numbers.ensures.reads holds) stands here columns there held
    ∙ ap (λ (o : Option (List Value)). spell (all_noted_changes (at k) (changing cs assigns r o) es)) (sym (row_here m t x r here there)) in
    c.in_ok-append.ensures.ok
    ∙ ap (λ (b : List (List ℕ × Option (List ℕ))). b ++ c.in_ok-notes.notes) first
    ∙ ap (λ (b : List (List ℕ × Option (List ℕ))). spell own ++ b) told
    ∙ sym (spell-append own notes)

pub value_batch-requires-clause-few : goal.value_batch-requires-clause-few
value_batch-requires-clause-few g c = few_others c.args.columns.now c.behind_key-behind.result.now c.behind_key-behind.ensures c.requires.few

pub returns-clause-entries : goal.returns-clause-entries
returns-clause-entries g c = row_and_notes c.in_ok-batch.batch c.append.new.self c.in_ok-notes.notes c.in_ok-batch.ensures.shaped c.in_ok-append.ensures.ok c.in_ok-notes.ensures.shaped
