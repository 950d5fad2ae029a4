use Rattle.std.proofs.Common.{subst}
use Rattle.ct_site.specs.Disks.{IsSync}
use Rattle.ct_site.specs.Memory.{MemState, memory_view}
use Rattle.ct_site.proofs.quiet.QuietSiteDisk.sync.Goals as goal

pub returns-clause-sync : goal.returns-clause-sync
returns-clause-sync c = subst (λ (s : MemState). IsSync (memory_view s) (memory_view c.sync.new.self) c.sync.result) c.self.view_is c.sync.ensures.sync
