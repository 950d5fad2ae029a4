use Rattle.std.proofs.Common.{Err, Some, ap, subst, sym}
use Rattle.ct_keep.specs.Content.{Content}
use Rattle.pg_directory.specs.Holding.{RecoversTo}
use Rattle.pg_keeper.specs.laws.Paged.{entries_moved}
use Rattle.pg_keeper.proofs.DirectLoads.{direct_moments, directed_ends, no_directory, only_read, well_moments}
use Rattle.pg_keeper.proofs.Loads.{err_same, loads_commit, stays_read}
use Rattle.pg_keeper.proofs.loading.load_heap.Goals as goal

-- ---- the load failed

pub returns-in-Err-clause-moments : goal.returns-in-Err-clause-moments
returns-in-Err-clause-moments g c = λ image told. well_moments _ _ _ image (c.load_well.ensures.moments image told)

pub returns-in-Err-clause-needless : goal.returns-in-Err-clause-needless
returns-in-Err-clause-needless g c = λ image told needs. record { syncs = c.load_well.ensures.syncs; moments = c.load_well.ensures.moments image told; length = c.load_well.ensures.length }

pub returns-in-Err-clause-no_store : goal.returns-in-Err-clause-no_store
returns-in-Err-clause-no_store g c = λ image told is. c.in-Err.ensures.no_store image told (ap Err (err_same _ _ is))

pub returns-in-Err-clause-refused : goal.returns-in-Err-clause-refused
returns-in-Err-clause-refused g c = λ image settled shut is. c.in-Err.ensures.refused image settled shut (ap Err (err_same _ _ is))

-- ---- what a crash leaves of a store that may get a directory

pub returns-in-Err-direct-clause-moments : goal.returns-in-Err-direct-clause-moments
returns-in-Err-direct-clause-moments g c = λ image told.
    let l = c.in-Ok.ensures.loaded image told in
    direct_moments (g.H.Shape.is_well c.args.shape.now) _ _ _ image l.0.held (c.load_well.ensures.moments image told) l.1 (c.in-Ok.ensures.entries l.0) (c.direct.ensures.moments l.0)

pub returns-in-Ok-direct-clause-moments : goal.returns-in-Ok-direct-clause-moments
returns-in-Ok-direct-clause-moments g c = λ image told.
    let l = c.in-Ok.ensures.loaded image told in
    direct_moments (g.H.Shape.is_well c.args.shape.now) _ _ _ image l.0.held (c.load_well.ensures.moments image told) l.1 (c.in-Ok.ensures.entries l.0) (c.direct.ensures.moments l.0)

-- ---- of one that needs none

pub returns-in-Err-direct-clause-kept : goal.returns-in-Err-direct-clause-kept
returns-in-Err-direct-clause-kept g c = λ image settled only needs.
    let told = settled.told in
    stays_read _ _ _ image (c.load_well.ensures.kept image settled only)
    (only_read _ _ _ c.in-Ok.heap image (c.in-Ok.ensures.loaded image told) (λ now is. c.load_well.ensures.alike image now told is) _ c.in-Ok.ensures.entries c.direct.ensures.none needs) c.direct.ensures.commits.beside

pub returns-in-Ok-direct-clause-kept : goal.returns-in-Ok-direct-clause-kept
returns-in-Ok-direct-clause-kept g c = λ image settled only needs.
    let told = settled.told in
    stays_read _ _ _ image (c.load_well.ensures.kept image settled only)
    (only_read _ _ _ c.in-Ok.heap image (c.in-Ok.ensures.loaded image told) (λ now is. c.load_well.ensures.alike image now told is) _ c.in-Ok.ensures.entries c.direct.ensures.none needs) c.direct.ensures.commits.beside

pub returns-in-Err-direct-clause-needless : goal.returns-in-Err-direct-clause-needless
returns-in-Err-direct-clause-needless g c = λ image told needs.
    no_directory image _ _ _ (c.load_well.ensures.moments image told) c.load_well.ensures.syncs c.load_well.ensures.length
    (only_read _ _ _ c.in-Ok.heap image (c.in-Ok.ensures.loaded image told) (λ now is. c.load_well.ensures.alike image now told is) _ c.in-Ok.ensures.entries c.direct.ensures.none needs) c.direct.ensures.commits.beside

pub returns-in-Ok-direct-clause-needless : goal.returns-in-Ok-direct-clause-needless
returns-in-Ok-direct-clause-needless g c = λ image told needs.
    no_directory image _ _ _ (c.load_well.ensures.moments image told) c.load_well.ensures.syncs c.load_well.ensures.length
    (only_read _ _ _ c.in-Ok.heap image (c.in-Ok.ensures.loaded image told) (λ now is. c.load_well.ensures.alike image now told is) _ c.in-Ok.ensures.entries c.direct.ensures.none needs) c.direct.ensures.commits.beside

-- ---- how long it is

pub returns-in-Err-direct-clause-length : goal.returns-in-Err-direct-clause-length
returns-in-Err-direct-clause-length g c = λ image told.
    directed_ends (g.H.Shape.is_well c.args.shape.now) _ _ c.in-Ok.heap image (c.in-Ok.ensures.loaded image told) (λ now is. c.load_well.ensures.alike image now told is) _ (g.D.Disk.disk c.args.disk.now) c.direct.ensures.commits.untold
    c.load_well.ensures.length c.direct.ensures.none c.direct.ensures.length

pub returns-in-Ok-direct-clause-length : goal.returns-in-Ok-direct-clause-length
returns-in-Ok-direct-clause-length g c = λ image told.
    directed_ends (g.H.Shape.is_well c.args.shape.now) _ _ c.in-Ok.heap image (c.in-Ok.ensures.loaded image told) (λ now is. c.load_well.ensures.alike image now told is) _ (g.D.Disk.disk c.args.disk.now) c.direct.ensures.commits.untold
    c.load_well.ensures.length c.direct.ensures.none c.direct.ensures.length

-- ---- it couldn't be made

pub returns-in-Err-direct-clause-loads : goal.returns-in-Err-direct-clause-loads
returns-in-Err-direct-clause-loads g c = loads_commit _ _ _ c.in-Ok.heap c.direct.result _ c.in-Ok.ensures.loads c.direct.ensures.commits (rw c.in-Err-direct.is (sym (c.fault_of_heap.ensures.faults _)))

-- ---- it has one, or no entry

pub returns-in-Ok-direct-clause-loaded : goal.returns-in-Ok-direct-clause-loaded
returns-in-Ok-direct-clause-loaded g c = λ image told.
    let l = c.in-Ok.ensures.loaded image told in
    let t = c.in-Ok-direct.ensures.stands l.0 in
    (t.0, subst (λ (m : Content). RecoversTo image (Some m)) (sym t.1) l.1)

pub returns-in-Ok-direct-clause-usable : goal.returns-in-Ok-direct-clause-usable
returns-in-Ok-direct-clause-usable g c = record {
  ready = c.in-Ok-direct.ensures.ready;
  directed = c.in-Ok-direct.ensures.directed;
  entries = entries_moved (g.D.Disk.disk c.load_well.new.disk) (g.D.Disk.disk c.direct.new.disk) c.in-Ok.heap c.direct.new.self (g.H.Shape.is_well c.args.shape.now) (λ m. m) c.in-Ok.ensures.ready c.direct.ensures.commits.untold
      c.in-Ok.ensures.entries c.in-Ok-direct.ensures.stands;
}
