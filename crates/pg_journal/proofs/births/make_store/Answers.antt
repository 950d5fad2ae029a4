use Rattle.ct_site.specs.Disks.{leaves_then}
use Rattle.ct_site.specs.laws.Lengths.{grows_then}
use Rattle.pg_journal.proofs.Birth.{recovered_unborn, borne}
use Rattle.pg_journal.proofs.births.make_store.Goals as goal

pub returns-in_err-clear_where-clause-moments : goal.returns-in_err-clear_where-clause-moments
returns-in_err-clear_where-clause-moments g c = λ image settled unborn. recovered_unborn _ _ (c.clear_where.ensures.moments image settled unborn)

pub returns-in_err-write_pages-clause-moments : goal.returns-in_err-write_pages-clause-moments
returns-in_err-write_pages-clause-moments g c = λ image settled unborn.
    let cleared = c.in_ok-clear_where.ensures.cleared image settled unborn in
    recovered_unborn _ _ (leaves_then _ _ _ _ (c.clear_where.ensures.moments image settled unborn) (c.write_pages.ensures.moments cleared.image cleared.settled cleared.cleared))

pub returns-clause-moments : goal.returns-clause-moments
returns-clause-moments g c = λ image settled unborn.
    let cleared = c.in_ok-clear_where.ensures.cleared image settled unborn in
    borne _ _ _ _ (c.clear_where.ensures.moments image settled unborn) (c.write_pages.ensures.moments cleared.image cleared.settled cleared.cleared)
    (c.set_birth.ensures.moments (c.in_ok-write_pages.ensures.bytes cleared.image cleared.settled cleared.cleared))

pub returns-in_err-clear_where-clause-length : goal.returns-in_err-clear_where-clause-length
returns-in_err-clear_where-clause-length g c = c.clear_where.ensures.length

pub returns-in_err-write_pages-clause-length : goal.returns-in_err-write_pages-clause-length
returns-in_err-write_pages-clause-length g c = grows_then 12288 _ _ _ c.write_pages.ensures.works.untold c.clear_where.ensures.length c.write_pages.ensures.length

pub returns-clause-length : goal.returns-clause-length
returns-clause-length g c =
    grows_then 12288 _ _ _ c.set_birth.ensures.works.untold (grows_then 12288 _ _ _ c.write_pages.ensures.works.untold c.clear_where.ensures.length c.write_pages.ensures.length) c.set_birth.ensures.length
