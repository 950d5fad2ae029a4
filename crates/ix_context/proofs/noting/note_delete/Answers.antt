use Rattle.ct_base.specs.declared.numbers.DocId.{DocId}
use Rattle.ct_entry.specs.Changes.{spell}
use Rattle.std.specs.Option.{option_map}
use Rattle.ix_docmap.specs.Changes.{gone_changes}
use Rattle.ix_context.specs.laws.Shapes.{shaped_added}
use Rattle.ix_context.proofs.NoteSteps.{shaped_gone}
use Rattle.ix_context.proofs.noting.note_delete.Goals as goal

pub returns-clause-shaped : goal.returns-clause-shaped
returns-clause-shaped g c =
    let document = option_map (λ (d : DocId). d.0) c.in-Ok.document in
    shaped_added c.args.batch.now c.drop_row.new.batch (spell (gone_changes c.args.index.now c.args.key.0 document)) c.in_ok-drop_row.ensures.ok
    (shaped_gone c.args.index.now c.args.key.0 document)
