use Rattle.ct_entry.specs.Changes.{spell}
use Rattle.ix_docmap.specs.Changes.{unqueue_changes}
use Rattle.ix_context.specs.laws.Shapes.{shaped_added, keeps_then}
use Rattle.ix_context.proofs.syncing.settle_row.Goals as goal

pub returns-clause-shaped : goal.returns-clause-shaped
returns-clause-shaped c =
    keeps_then c.args.changes.now c.unqueue.new.batch c.mark_next.new.changes c.mark_next.result
    (shaped_added c.args.changes.now c.unqueue.new.batch (spell (unqueue_changes c.args.index.now c.args.row.0)) c.in_ok-unqueue.ensures.ok tt)
    c.mark_next.ensures.shaped
