use Rattle.std.proofs.Common.{◌≡◌, List, ℕ, [], ◌∷◌, Vec, map, ap, subst, ◌∙◌, arith}
use Rattle.std.specs.declared.alloc.Global.{Global}
use Rattle.std.proofs.lemmas.Grind.{common_steps}
use Rattle.ix_rows.specs.Taking.{IsTaken}
use Rattle.ix_rows.proofs.TakeSteps.{SoFar, begun, taken, passed, ended}
use Rattle.ix_rows.proofs.taking.rows_in.Goals.{in-Some-row_behind+in_ok-push, in_default}
use Rattle.ix_rows.proofs.taking.rows_in.Goals as goal

abbrev pairs_of : List (Vec ℕ Global × Vec ℕ Global) → List (List ℕ × List ℕ)
pairs_of es = map (λ e. (e.0.items, e.1.items)) es

pub loop-value-init : goal.loop-value-init
loop-value-init g c = begun g.P.Place.form _ _ _ (ap pairs_of c.into_iter-value-iterator.ensures.into_iter_gives.0) c.new-rows.ensures.items

pub loop-value-preserved : goal.loop-value-preserved
loop-value-preserved g c =
    let es = pairs_of c.args.entries.items in
    let far : SoFar g.P.Place.form es (pairs_of ((c.in-Some.field-0-0, c.in-Some.value) ∷ c.next.new.self.rest.items)) c.loop-value.rows.items c.loop-value.last =
    subst (λ (l : List (Vec ℕ Global × Vec ℕ Global)). SoFar g.P.Place.form es (pairs_of l) c.loop-value.rows.items c.loop-value.last) c.in-Some.ensures.steps.0 c.loop-value.invariant in
    let rest = pairs_of c.next.new.self.rest.items in
    elim c.match-row_behind.branch [
      | in-Some-row_behind+in_ok-push w ↦
          taken g.P.Place.form es rest (c.in-Some.field-0-0.items, c.in-Some.value.items) c.loop-value.rows.items c.match-row_behind.rows.items c.loop-value.last w.in-Some-row_behind.row w.in-Some-row_behind.end c.match-row_behind.last
          far (subst (IsTaken g.P.Place.form c.loop-value.last c.in-Some.value.items) w.in-Some-row_behind.is c.row_behind.ensures) (ap (λ v. v.items) w.rows-is ∙ w.in_ok-push.ensures.items) w.last-is
      | in_default w ↦
          passed g.P.Place.form es rest (c.in-Some.field-0-0.items, c.in-Some.value.items) c.loop-value.rows.items c.match-row_behind.rows.items c.loop-value.last c.match-row_behind.last
          far (subst (IsTaken g.P.Place.form c.loop-value.last c.in-Some.value.items) w.in_default.is c.row_behind.ensures) (ap (λ v. v.items) w.rows-is) w.last-is
    ]

pub returns : goal.returns
returns g c =
    let none : c.loop-value.value-iterator.rest.items ≡ [] = grind (arith, common_steps, c.in-None.ensures) in
    ended g.P.Place.form _ _ _ _ c.loop-value.invariant (ap pairs_of none)
