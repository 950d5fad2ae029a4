use Rattle.std.proofs.Common.{take}
use Rattle.pg_cache.specs.Caches.{RenewsAll}
use Rattle.pg_cache.proofs.caches.PageCache.renew_all.Given as goal

abbrev pub invariant-loop-i : goal.invariant-loop-i
invariant-loop-i g l = RenewsAll (take l.i (g.B.ChangedPages.pages l.fn.batch)) l.fn.self l.self
