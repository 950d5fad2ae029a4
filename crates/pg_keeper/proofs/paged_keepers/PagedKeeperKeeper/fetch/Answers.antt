use Rattle.std.proofs.Common.{◌≡◌, None}
use Rattle.std.specs.FinMap.{get}
use Rattle.std.specs.Option.{option_map}
use Rattle.pg_keeper.specs.laws.Paged.{as_told, looked}
use Rattle.pg_keeper.proofs.paged_keepers.PagedKeeperKeeper.fetch.Goals as goal

pub returns-clause-value : goal.returns-clause-value
returns-clause-value g c =
    let k = c.args.self.now in
    as_told (g.S.Disk.disk k.site.now) k.heap (g.H.Shape.is_well k.shape) (λ m found. option_map (λ v. v.items) found ≡ get m c.args.key.now) c.fetch.result c.requires c.fetch.ensures.value

pub returns-clause-reads : goal.returns-clause-reads
returns-clause-reads g c =
    let k = c.args.self.now in
    looked (g.S.Disk.disk k.site.now) _ k.heap _ (g.H.Shape.is_well k.shape) k.limit k.counts c.look_up.new.self k.site.ghost_name c.args.key.now None c.fetch.result c.requires c.fetch.ensures.ready c.fetch.ensures.before
    c.fetch.ensures.reads c.fetch.ensures.full c.look_up.ensures
