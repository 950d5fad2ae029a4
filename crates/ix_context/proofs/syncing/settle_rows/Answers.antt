use Rattle.std.proofs.Common.{map}
use Rattle.ct_base.specs.declared.numbers.RowKey.{RowKey}
use Rattle.ct_entry.specs.Changes.{spell}
use Rattle.ix_context.specs.Changes.{settle_each_changes}
use Rattle.ix_context.specs.Gathering.{gathering_changes}
use Rattle.ix_context.specs.Indexes.{target_text}
use Rattle.ix_context.specs.laws.GatheredRows.{shaped_gathered}
use Rattle.ix_context.specs.laws.Shapes.{shaped_added}
use Rattle.ix_context.proofs.GatherSteps.{added_both, gathered_from}
use Rattle.ix_context.proofs.syncing.settle_rows.Goals as goal

pub returns-clause-changes : goal.returns-clause-changes
returns-clause-changes g c = λ m ts holds told.
    added_both c.args.changes.now c.settle_each.new.changes c.into_changes.new.batch (settle_each_changes c.args.index.now c.args.first (map (λ (r : RowKey). r.0) c.args.rows.now)) _ _
    c.in_ok-settle_each.ensures.changes c.in_ok-into_changes.ensures
    (gathered_from c.args.prefs.now (target_text ts c.args.target.now) c.args.index.now c.args.first c.args.rows.now c.in_ok-gathered.gathered c.requires.some c.requires.room (c.in_ok-gathered.ensures.gathers m ts holds told))

pub returns-clause-shaped : goal.returns-clause-shaped
returns-clause-shaped g c = λ are.
    shaped_added c.settle_each.new.changes c.into_changes.new.batch (spell (gathering_changes c.args.index.now c.in_ok-gathered.gathered)) c.in_ok-into_changes.ensures
    (shaped_gathered c.args.index.now c.as_str-named.ensures.name c.in_ok-gathered.gathered c.in_ok-gathered.ensures.grown)
    (c.in_ok-settle_each.ensures.shaped are)
