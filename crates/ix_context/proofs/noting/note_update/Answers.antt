use Rattle.std.proofs.Common.{rules}
use Rattle.std.specs.Option.{option_map}
use Rattle.ct_base.specs.declared.numbers.DocId.{DocId}
use Rattle.ct_entry.specs.Keys.{IsRow}
use Rattle.ct_entry.specs.Changes.{spell}
use Rattle.ix_docmap.specs.Changes.{changed_changes}
use Rattle.ix_context.specs.laws.Shapes.{shaped_added}
use Rattle.ix_context.proofs.NoteSteps.{shaped_changed}
use Rattle.ix_context.proofs.noting.note_update.Goals as goal

pub returns-clause-shaped : goal.returns-clause-shaped
returns-clause-shaped g c =
    let row : IsRow c.args.key.0 = search rules in
    let document = option_map (λ (d : DocId). d.0) c.in-Ok.document in
    shaped_added c.args.batch.now c.requeue_row.new.batch (spell (changed_changes c.args.index.now c.args.key.0 document)) c.in_ok-requeue_row.ensures.ok
    (shaped_changed c.args.index.now c.args.key.0 document c.as_str-named.ensures.name row)
