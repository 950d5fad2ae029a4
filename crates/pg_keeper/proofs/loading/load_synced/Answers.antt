use Rattle.std.proofs.Common.{◌∙◌}
use Rattle.pg_keeper.proofs.Loads.{alike_told, quiet_sync, stays_read, sync_moments, load_moments, settled_for_load, settled_sync}
use Rattle.pg_keeper.proofs.loading.load_synced.Goals as goal

-- ---- the sync failed

pub returns-in_default-clause-moments : goal.returns-in_default-clause-moments
returns-in_default-clause-moments g c = λ image told. sync_moments _ _ image c.sync.ensures

pub returns-in_default-clause-alike : goal.returns-in_default-clause-alike
returns-in_default-clause-alike g c = λ image now told is. alike_told (g.D.Disk.disk c.sync.new.self).image image now (c.sync.ensures.image ∙ told) is

pub returns-in_default-clause-kept : goal.returns-in_default-clause-kept
returns-in_default-clause-kept g c = λ image settled only. quiet_sync _ _ image settled c.sync.ensures

-- ---- nothing is pending

pub load-requires : goal.load-requires
load-requires g c = settled_for_load (g.D.Disk.disk c.args.disk.now) (g.D.Disk.disk c.sync.new.self) c.in-Ok.ensures

pub returns-clause-moments : goal.returns-clause-moments
returns-clause-moments g c = λ image told.
    load_moments _ _ _ image c.sync.ensures (c.load.ensures.moments image (settled_sync _ _ image c.in-Ok.ensures told))

pub returns-clause-alike : goal.returns-clause-alike
returns-clause-alike g c = λ image now told is.
    (c.load.ensures.moments image (settled_sync _ _ image c.in-Ok.ensures told)).now now (g.met.D.Disk.may_stay c.load.new.disk now is)

pub returns-clause-loaded : goal.returns-clause-loaded
returns-clause-loaded g c = λ image told. c.load.ensures.loaded image (settled_sync _ _ image c.in-Ok.ensures told)

pub returns-clause-no_store : goal.returns-clause-no_store
returns-clause-no_store g c = λ image told. c.load.ensures.no_store image (settled_sync _ _ image c.in-Ok.ensures told)

pub returns-clause-refused : goal.returns-clause-refused
returns-clause-refused g c = λ image settled shut is.
    stays_read _ _ _ image (quiet_sync _ _ image settled c.sync.ensures) (c.load.ensures.refused image (settled_sync _ _ image c.in-Ok.ensures settled.told) shut is) c.load.ensures.loads.beside

pub returns-clause-kept : goal.returns-clause-kept
returns-clause-kept g c = λ image settled only.
    stays_read _ _ _ image (quiet_sync _ _ image settled c.sync.ensures) (c.load.ensures.kept image (c.sync.ensures.image ∙ settled.told) only) c.load.ensures.loads.beside

pub returns-clause-answers : goal.returns-clause-answers
returns-clause-answers g c = λ image told. c.load.ensures.answers image (c.sync.ensures.image ∙ told)

pub returns-clause-length : goal.returns-clause-length
returns-clause-length g c = record { bounds = λ image x told given. c.load.ensures.length.bounds image x (c.sync.ensures.image ∙ told) given }
