use Rattle.std.proofs.Common.{◌≡◌, List, ℕ, Vec, Result, Ok, Err, sym, subst}
use Rattle.std.specs.Result.{IfOk}
use Rattle.std.specs.declared.alloc.Global.{Global}
use Rattle.ct_base.specs.declared.Memory.{Memory}
use Rattle.ct_site.specs.Histories.{begun, disk_after}
use Rattle.ct_site.specs.Crashes.{crashed, crashed_left}
use Rattle.ct_site.specs.Memory.{MemState, memory_view}
use Rattle.ct_site.proofs.memory.MemSite.crash.Goals as goal

may : (P : List ℕ → Type 0) (left : List ℕ) (result : Result (Vec ℕ Global) Memory) → P left → IfOk result (λ image. image.items ≡ left) → IfOk result (λ image. P image.items)
may P left (Ok image) p is = subst P (sym is) p
may P left (Err fault) p is = tt

pub returns-clause-may : goal.returns-clause-may
returns-clause-may c =
    let s = c.self.inside in
    let left = crashed c.args.pick s.first.items s.log.changes in
    subst (λ (x : MemState). IfOk c.crash.result (λ image. (memory_view x).may_leave image.items)) c.self.view_is
    (may (disk_after (begun s.first.items) s.log.changes).may_leave left c.crash.result (crashed_left c.args.pick s.first.items s.log.changes c.self.invariant.within)
    (subst (λ (l : List ℕ). IfOk c.crash.result (λ image. image.items ≡ crashed c.args.pick l s.log.changes)) c.deref.ensures.value c.crash.ensures))
