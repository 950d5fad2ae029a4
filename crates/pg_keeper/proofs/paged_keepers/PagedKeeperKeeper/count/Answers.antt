use Rattle.pg_keeper.specs.laws.Paged.{counts_told}
use Rattle.pg_keeper.proofs.paged_keepers.PagedKeeperKeeper.count.Goals as goal

pub returns : goal.returns
returns g c =
    let k = c.args.self.now in
    counts_told (g.S.Disk.disk k.site.now) k.heap (g.H.Shape.is_well k.shape) c.args.owner.now c.count.result c.requires.ready c.requires.owner c.count.ensures
