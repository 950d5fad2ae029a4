use Rattle.std.proofs.Common.{◌≡◌, ◌++◌, refl, ap, ◌∙◌}
use Rattle.ct_base.specs.laws.Results.{on_ok}
use Rattle.ct_entry.specs.Changes.{spell}
use Rattle.ct_entry.specs.declared.kinds.Kind.TheVariants as kind
use Rattle.ix_rows.specs.RowMaps.{row_map_changes}
use Rattle.ix_context.specs.Gathering.{IndexRowsView, gathering_changes}
use Rattle.ix_context.proofs.GatherSteps.{added_both}
use Rattle.ix_context.proofs.gathering.IndexRows.into_changes.Goals as goal

pub returns : goal.returns
returns c =
    let words = row_map_changes kind.Postings c.args.index.now c.gathered.inside.words in
    let sections = row_map_changes kind.Spans c.args.index.now c.gathered.inside.sections in
    on_ok c.into_changes-2.result (c.into_changes-2.new.batch ≡ c.into_changes.new.batch ++ spell sections) _
    (λ second.
    added_both c.args.batch.now c.into_changes.new.batch c.into_changes-2.new.batch words sections sections c.in_ok-into_changes.ensures second refl
    ∙ ap (λ (g : IndexRowsView). c.args.batch.now ++ spell (gathering_changes c.args.index.now g)) c.gathered.view_is)
    c.into_changes-2.ensures
