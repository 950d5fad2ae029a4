use Rattle.std.proofs.Common.{refl, rules}
use Rattle.std.specs.Option.{option_map}
use Rattle.ct_entry.specs.Keys.{IsRow}
use Rattle.ix_docmap.specs.Changes.{queue_changes}
use Rattle.q_tree.specs.ReducedQueries.{reduced_of}
use Rattle.rule_index.specs.Spelling.{query_anchors}
use Rattle.rule_index.specs.laws.Shapes.{set_shaped, shaped_added}
use Rattle.rule_index.specs.laws.Reading.{anchors_read}
use Rattle.rule_index.proofs.AddSteps.{lost_then}
use Rattle.rule_index.proofs.rules.Rules.note_update.Goals as goal

pub returns-clause-changes : goal.returns-clause-changes
returns-clause-changes g c = λ m ts x holds told.
    let row : IsRow c.args.row.0 = search rules in
    lost_then c.args.index.now c.args.row.0 _ _ (queue_changes c.args.index.now c.args.row.0) c.args.batch.now c.new-changes.result c.put_loss.new.changes c.queue.new.batch c.append.new.self
    c.new-changes.ensures c.in_ok-put_loss.ensures (anchors_read m ts c.args.index.now x c.args.row.0 _ told row (c.in_ok-query.ensures.query m holds)) c.in_ok-queue.ensures.ok c.in_ok-append.ensures.ok

pub returns-clause-shaped : goal.returns-clause-shaped
returns-clause-shaped g c =
    let row : IsRow c.args.row.0 = search rules in
    shaped_added c.args.batch.now c.append.new.self _
    (lost_then c.args.index.now c.args.row.0 _ _ (queue_changes c.args.index.now c.args.row.0) c.args.batch.now c.new-changes.result c.put_loss.new.changes c.queue.new.batch c.append.new.self
    c.new-changes.ensures c.in_ok-put_loss.ensures refl c.in_ok-queue.ensures.ok c.in_ok-append.ensures.ok)
    (set_shaped c.args.index.now c.args.row.0 (query_anchors (option_map reduced_of c.in_ok-query.query)) c.as_str-named.ensures.name row)
