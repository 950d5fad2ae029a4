use Rattle.ct_keep.specs.Changes.{AnyEntry}
use Rattle.ct_keep.specs.KeeperViews.{fault_of}
use Rattle.ct_keep.specs.laws.Changes.{well_weaker}
use Rattle.pg_keeper.specs.laws.Paged.{answers_told, kept_applied, goes_applied}
use Rattle.pg_keeper.proofs.paged_keepers.PagedKeeperKeeper.commit.Goals as goal

pub apply_within-done-requires-clause-well : goal.apply_within-done-requires-clause-well
apply_within-done-requires-clause-well g c = well_weaker (g.H.Shape.is_well c.args.self.now.shape) AnyEntry (λ key value entry is. tt) c.args.batch c.requires.well

pub returns-clause-kept : goal.returns-clause-kept
returns-clause-kept g c =
    let k = c.args.self.now in
    kept_applied (g.S.Disk.disk k.site.now) _ k.heap _ (g.H.Shape.is_well k.shape) k.limit k.counts c.commit.new.self k.site.ghost_name c.args.batch c.apply_within-done.result c.requires.ready c.requires.well c.apply_within-done.ensures.applies

pub returns-clause-goes : goal.returns-clause-goes
returns-clause-goes g c = λ m holds.
    let k = c.args.self.now in
    goes_applied (g.S.Disk.disk k.site.now) _ k.heap _ (g.H.Shape.is_well k.shape) k.limit k.counts c.commit.new.self k.site.ghost_name c.args.batch c.apply_within-done.result c.requires.ready c.apply_within-done.ensures.applies m holds

pub returns-clause-answers : goal.returns-clause-answers
returns-clause-answers g c =
    let k = c.args.self.now in
    answers_told (g.S.Disk.disk k.site.now) (g.S.Disk.disk c.apply_within-done.new.disk) k.heap c.apply_within-done.new.self (g.H.Shape.is_well k.shape) k.limit k.counts c.commit.new.self k.site.ghost_name c.args.batch
    (fault_of c.apply_within-done.result) c.requires.ready c.apply_within-done.ensures.answers

pub returns-clause-counts : goal.returns-clause-counts
returns-clause-counts g c = c.commit.ensures

pub returns-clause-syncs : goal.returns-clause-syncs
returns-clause-syncs g c = c.apply_within-done.ensures.applies.commits.syncs
