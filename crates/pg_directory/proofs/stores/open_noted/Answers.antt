use Rattle.std.proofs.Common.{ℕ, sym, subst}
use Rattle.std.specs.Prelude.{IfOk}
use Rattle.pg_directory.specs.Looking.{DiskHolds}
use Rattle.pg_directory.specs.OpenStore.{IsOpenOnOr}
use Rattle.pg_directory.proofs.stores.open_noted.Goals as goal

pub returns-then-top-eq0-clause-opened : goal.returns-then-top-eq0-clause-opened
returns-then-top-eq0-clause-opened g c = λ pages holds notes have.
    subst (λ (t : ℕ). IfOk c.open_undirected.result (λ found. IsOpenOnOr found pages t)) (sym c.if-top-eq0.true)
    (c.open_undirected.ensures.opened pages (subst (λ (t : ℕ). DiskHolds (g.D.Disk.disk c.args.disk.now) c.args.journal.now t pages) c.if-top-eq0.true holds) notes have)
