use Rattle.pg_keeper.specs.laws.Paged.{paged_hears}
use Rattle.pg_keeper.proofs.paged_keepers.PagedKeeperKeeper.hear.Goals as goal

pub returns-clause-hears : goal.returns-clause-hears
returns-clause-hears g c =
    let k = c.args.self.now in
    paged_hears (g.S.Disk.disk k.site.now) _ k.heap (g.H.Shape.is_well k.shape) k.limit k.counts k.site.ghost_name _ c.hear.ensures.hears
