use Rattle.std.proofs.Common.{◌+◌, take, sym, subst, ◌∙◌, arith}
use Rattle.pg_cache.specs.Caches.{RenewsAll}
use Rattle.pg_cache.proofs.Keeping.{each_renewed}
use Rattle.pg_cache.proofs.Renewing.{none_renewed, count_kept, page_renewed, page_absent, all_renewed}
use Rattle.pg_cache.proofs.caches.PageCache.renew_all.Goals.{then-keeps, else-keeps}
use Rattle.pg_cache.proofs.caches.PageCache.renew_all.Goals as goal

pub loop-i-init : goal.loop-i-init
loop-i-init g c = none_renewed _

pub loop-i-preserved : goal.loop-i-preserved
loop-i-preserved g c = elim c.if-keeps.branch [
  | then-keeps w ↦ page_renewed (g.B.ChangedPages.pages c.args.batch.now) _ c.numbers-numbers.ensures.numbers c.loop-i.i _ _ _ _ c.loop-i-test.true w.image.ensures c.loop-i.invariant (each_renewed _ _ _ _ (w.self-is ∙ w.renew.ensures))
  | else-keeps w ↦ subst (RenewsAll (take (c.loop-i.i + 1) (g.B.ChangedPages.pages c.args.batch.now)) c.args.self.now) (sym w.self-is)
      (page_absent (g.B.ChangedPages.pages c.args.batch.now) _ c.numbers-numbers.ensures.numbers c.loop-i.i _ _ c.loop-i-test.true c.loop-i.invariant (sym c.keeps.ensures ∙ w.if-keeps.false))
]

pub returns : goal.returns
returns g c =
    let count = count_kept (g.B.ChangedPages.pages c.args.batch.now) _ c.numbers-numbers.ensures.numbers in
    all_renewed (g.B.ChangedPages.pages c.args.batch.now) c.loop-i.i _ _ (omega (arith, c.loop-i.auto.i-end, c.loop-i-test.false, count)) c.loop-i.invariant
