use Rattle.std.proofs.Common.{◌≡◌}
use Rattle.std.specs.Option.{option_map}
use Rattle.ct_keep.specs.Content.{entries_above, first_entry}
use Rattle.ct_keep.specs.Handed.{handed}
use Rattle.pg_keeper.specs.laws.Paged.{as_told, looked}
use Rattle.pg_keeper.proofs.paged_keepers.PagedKeeperKeeper.next_after.Goals as goal

pub returns-clause-entry : goal.returns-clause-entry
returns-clause-entry g c =
    let k = c.args.self.now in
    as_told (g.S.Disk.disk k.site.now) k.heap (g.H.Shape.is_well k.shape) (λ m found. option_map (λ e. (e.0.items, e.1.items)) found ≡ first_entry (entries_above c.args.key.now m)) c.next_after-found.result c.requires
    c.next_after-found.ensures.entry

pub returns-clause-reads : goal.returns-clause-reads
returns-clause-reads g c =
    let k = c.args.self.now in
    looked (g.S.Disk.disk k.site.now) _ k.heap _ (g.H.Shape.is_well k.shape) k.limit k.counts c.hand_out.new.self k.site.ghost_name c.args.key.now (handed c.next_after-found.result) c.next_after-found.result c.requires c.next_after-found.ensures.ready
    c.next_after-found.ensures.before c.next_after-found.ensures.reads c.next_after-found.ensures.full c.hand_out.ensures
