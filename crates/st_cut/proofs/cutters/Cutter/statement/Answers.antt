use Rattle.std.proofs.Common.{◌≡◌, ◌≤◌, take, length, sym, subst, arith}
use Rattle.std.proofs.lemmas.Grind.{common_steps}
use Rattle.st_cut.specs.Seen.{Seen, StandsOpen, IsStopWithin}
use Rattle.st_cut.proofs.Standing.{statement_kept}
use Rattle.st_cut.specs.contracts.cutters.Cutter.{the_view}
use Rattle.st_cut.proofs.cutters.Cutter.statement.Goals as goal

pub slice_bounds-result-end : goal.slice_bounds-result-end
slice_bounds-result-end c =
    let v : c.self.inside.kept.items ≡ c.deref.result.now = sym c.deref.ensures.value in
    let w : IsStopWithin c.self.inside.stop c.self.inside.count = c.self.invariant.3 in
    let x : c.in-Some.stop ≤ c.self.inside.count = rw c.in-Some.is at w in
    grind (arith, common_steps, v, x)

pub returns-in-Some : goal.returns-in-Some
returns-in-Some c limit held statement s h =
    let t : StandsOpen limit (the_view c.self.inside) held = subst (λ (x : Seen). StandsOpen limit x held) (sym c.self.view_is) s in
    let r : (take c.in-Some.stop c.self.inside.kept.items ≡ statement) × (length statement ≤ limit) = statement_kept limit c.in-Some.stop (the_view c.self.inside) held statement t h c.in-Some.is (rw t.limited at c.if-stop-self.true) in
    rw c.deref.ensures.value r
