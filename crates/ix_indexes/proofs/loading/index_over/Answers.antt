use Rattle.std.proofs.Common.{◌∙◌, ap}
use Rattle.cat_index.specs.Catalogues.{places_in}
use Rattle.cat_index.specs.laws.Limits.{each_fits, few_places}
use Rattle.ix_indexes.proofs.loading.index_over.Goals as goal

pub returns-clause-can_tell : goal.returns-clause-can_tell
returns-clause-can_tell c =
    let placed = c.of.ensures ∙ c.in_ok-places.ensures ∙ ap (places_in c.args.columns.now) c.as_slice.ensures in
    (c.requires.set, few_places c.args.columns.now c.args.catalogue.subs c.of.result placed c.requires.subs, each_fits c.args.columns.now c.args.catalogue.subs c.of.result placed c.requires.subs)
