use Rattle.pg_keeper.specs.laws.Paged.{paged_says}
use Rattle.pg_keeper.proofs.paged_keepers.PagedKeeperKeeper.say.Goals as goal

pub returns-clause-says : goal.returns-clause-says
returns-clause-says g c =
    let k = c.args.self.now in
    paged_says (g.S.Disk.disk k.site.now) _ k.heap (g.H.Shape.is_well k.shape) k.limit k.counts k.site.ghost_name _ c.say.ensures.says
