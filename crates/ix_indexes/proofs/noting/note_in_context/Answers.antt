use Rattle.std.proofs.Common.{rules}
use Rattle.ct_entry.specs.Keys.{IsRow}
use Rattle.ct_entry.specs.Changes.{spell}
use Rattle.ix_docmap.specs.Changes.{queue_changes}
use Rattle.ix_context.specs.laws.Shapes.{shaped_note}
use Rattle.ix_indexes.proofs.NoteSteps.{keeps_shape}
use Rattle.ix_indexes.proofs.noting.note_in_context.Goals as goal

pub returns-in-Comes-clause-shaped : goal.returns-in-Comes-clause-shaped
returns-in-Comes-clause-shaped g c =
    let row : IsRow c.args.row.0 = search rules in
    keeps_shape c.note_insert.result c.args.batch.now c.note_insert.new.batch (spell (queue_changes c.args.index.now c.args.row.0)) c.note_insert.ensures.ok
    (shaped_note c.args.index.now c.args.row.0 c.as_str-named.ensures.name row)
