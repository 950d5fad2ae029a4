use Rattle.std.proofs.Common.{rules}
use Rattle.std.proofs.lemmas.Result.{on_ok_weaker}
use Rattle.ct_entry.specs.Keys.{IsRow}
use Rattle.ct_entry.specs.Changes.{spell}
use Rattle.ix_docmap.specs.Changes.{queue_changes}
use Rattle.rule_index.specs.laws.Shapes.{queue_shaped, shaped_added}
use Rattle.rule_index.proofs.rules.Rules.note_insert.Goals as goal

pub returns-clause-shaped : goal.returns-clause-shaped
returns-clause-shaped c =
    let row : IsRow c.args.row.0 = search rules in
    on_ok_weaker c.queue.result
    (λ added. shaped_added c.args.batch.now c.queue.new.batch (spell (queue_changes c.args.index.now c.args.row.0)) added (queue_shaped c.args.index.now c.args.row.0 c.as_str-named.ensures.name row)) c.queue.ensures.ok
