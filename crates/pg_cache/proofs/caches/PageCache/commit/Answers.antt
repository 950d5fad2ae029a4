use Rattle.std.proofs.Common.{arith}
use Rattle.pg_cache.proofs.Mirroring.{cache_committed}
use Rattle.pg_cache.proofs.caches.PageCache.commit.Goals as goal

pub returns-clause-cache : goal.returns-clause-cache
returns-clause-cache g c =
    cache_committed _ _ _ _ _ (g.B.ChangedPages.pages c.args.batch.now) _ _ _ c.requires.cache c.requires.may.below c.in_ok-commit.ensures.works.untold c.in_ok-commit.ensures.stands c.renew_all.ensures c.cut.ensures.fewer
    (λ fell. c.cut.ensures.within (omega (arith, fell, c.homes.ensures.homes, c.homes-before.ensures.homes)))
