use Rattle.std.proofs.lemmas.Result.{on_ok_weaker}
use Rattle.ct_entry.specs.Changes.{spell}
use Rattle.ix_docmap.specs.Changes.{unqueue_changes}
use Rattle.rule_index.specs.laws.Shapes.{shaped_added}
use Rattle.rule_index.proofs.syncing.settle_row.Goals as goal

pub returns-clause-shaped : goal.returns-clause-shaped
returns-clause-shaped g c =
    on_ok_weaker c.put_row.result (λ keeps shaped. keeps (shaped_added c.args.changes.now c.unqueue.new.batch (spell (unqueue_changes c.args.index.now c.args.row.0)) c.in_ok-unqueue.ensures.ok tt shaped)) c.put_row.ensures.shaped
