use Rattle.std.proofs.Common.{◌≡◌, List, Option, Some, ap, refl, subst, sym, ◌∙◌}
use Rattle.std.specs.FinMap.{get}
use Rattle.ct_base.specs.declared.lists.Value.{Value}
use Rattle.ct_keep.specs.laws.Composing.{reads_hold}
use Rattle.tb_table.specs.declared.columns.Column.{Column}
use Rattle.tb_table.specs.Rules.{others}
use Rattle.ix_indexes.specs.Noting.{any_needs_values, HasShortTexts}
use Rattle.db_rows.specs.Values.{values_behind_key}
use Rattle.db_change.specs.Updating.{changing, updated_values}
use Rattle.db_change.proofs.NoteSteps.{row_read, shown_short, updated_short}
use Rattle.db_change.proofs.updating.notes_of_row.Goals as goal

pub returns-clause-notes : goal.returns-clause-notes
returns-clause-notes g c = λ m k x holds stands here columns there held.
    let r = c.args.row.0 in
    let cs = others c.args.columns.now in
    let assigns = c.args.assigns.now in
    let was = c.as_slice-was.result.now in
    let next = c.as_slice-next.result.now in
    let next_is : next ≡ updated_values cs assigns was = c.as_slice-next.ensures.value ∙ c.in_ok-new.ensures ∙ ap (λ (l : List Column). updated_values l assigns was) c.behind_key.ensures in
    let short = shown_short was c.in_ok-old.old.items c.as_slice-was.ensures.value c.in_ok-old.ensures.short in
    c.in_ok-notes.ensures.changes k (reads_hold _ _ k c.in_ok-old.ensures.reads holds) held (changing cs assigns r (get x.rows r)) (record {
      row = refl;
      is = (there, refl);
      values = λ matter.
          let read = row_read m c.args.table.now x r here there (any_needs_values c.args.indexes.now) was c.in_ok-old.old.items c.as_slice-was.ensures.value (c.in_ok-old.ensures.values m k x holds stands here columns) matter in (
            (read, short),
            (
              ap (λ (o : Option (List Value)). Some (updated_values cs assigns (values_behind_key o))) read ∙ ap Some (sym next_is),
              subst HasShortTexts (sym next_is) (updated_short assigns c.requires.short cs was short),
            ),
          );
    })
