use Rattle.std.proofs.Common.{◌≡◌, ℕ, true, List, ◌++◌, Option, Some, ap, map, refl, subst, sym, ◌∙◌, rules}
use Rattle.std.specs.List.{All}
use Rattle.ct_keep.specs.laws.Composing.{reads_hold}
use Rattle.ct_entry.specs.Keys.{IsRow}
use Rattle.ix_indexes.specs.Noting.{any_needs_values, HasShortTexts, noted_indexes}
use Rattle.db_change.specs.Inserting.{coming, kept_value, IsNumberKept, IsTextKept}
use Rattle.db_change.proofs.NoteSteps.{new_short, on_held}
use Rattle.db_change.proofs.RowSteps.{batch_becomes}
use Rattle.db_change.proofs.ShapeSteps.{few_behind, short_behind, row_and_notes}
use Rattle.db_change.proofs.inserting.insert_batch.Goals as goal

pub returns-clause-batch : goal.returns-clause-batch
returns-clause-batch g c = λ m k x holds stands here columns free.
    let r = c.args.row.0 in
    let row : IsRow r = search rules in
    let vs = c.behind_key-values.result.items in
    let kept = map kept_value vs in
    let next = c.as_slice-next.result.now in
    let given = c.as_slice-given.ensures.value in
    let after = reads_hold _ _ k c.in_ok-indexes.ensures.reads holds in
    let noted = ap noted_indexes c.deref-2.ensures.value ∙ c.in_ok-indexes.ensures.indexes m k x holds stands here columns in
    let next_is : any_needs_values c.deref-2.result.now ≡ true → next ≡ kept =
    λ matter. c.as_slice-next.ensures.value ∙ c.in_ok-new.ensures (ap any_needs_values (c.deref.ensures.value ∙ sym c.deref-2.ensures.value) ∙ matter) ∙ ap (map kept_value) given in
    let told = c.in_ok-notes.ensures.changes k after (on_held k m c.args.table.now stands _ noted) (coming r kept) (record { row = refl; is = (refl, refl); values = λ matter. (ap Some (sym (next_is matter)), subst HasShortTexts (sym (next_is matter)) (new_short vs (short_behind c.args.values.items vs c.behind_key-values.ensures c.requires.short))) }) in
    batch_becomes k m c.args.table.now x r c.args.values.items vs stands here free row c.behind_key-values.ensures (subst (All IsNumberKept) given c.keep_values.ensures.numbers) (subst (All IsTextKept) given c.keep_values.ensures.texts)
    (noted_indexes c.deref-2.result.now) noted c.in_ok-batch.batch c.append.new.self c.in_ok-batch.ensures.changes
    (c.in_ok-append.ensures.ok ∙ ap (λ (notes : List (List ℕ × Option (List ℕ))). c.in_ok-batch.batch ++ notes) told)

pub row_batch-requires : goal.row_batch-requires
row_batch-requires g c = record {
  few = few_behind c.args.values.items c.behind_key-values.result.items c.behind_key-values.ensures c.requires.few;
  short = short_behind c.args.values.items c.behind_key-values.result.items c.behind_key-values.ensures c.requires.short;
}

pub returns-clause-entries : goal.returns-clause-entries
returns-clause-entries g c = row_and_notes c.in_ok-batch.batch c.append.new.self c.in_ok-notes.notes c.in_ok-batch.ensures.shaped c.in_ok-append.ensures.ok c.in_ok-notes.ensures.shaped
