use Rattle.std.proofs.Common.{◌≡◌, ◌++◌, map, take, drop}
use Rattle.pg_cache.specs.Caches.{renewed}
use Rattle.pg_cache.proofs.caches.PageCache.renew.Given as goal

abbrev pub invariant-loop-i : goal.invariant-loop-i
invariant-loop-i l = l.self-inside.frames.items ≡ map (renewed l.number l.bytes) (take l.i l.fn.self) ++ drop l.i l.fn.self
