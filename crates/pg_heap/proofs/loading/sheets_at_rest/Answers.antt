use Rattle.std.proofs.Common.{◌≡◌, ◌+◌, ◌-◌, ℕ, subst, arith}
use Rattle.pg_change.specs.Resting.{IsResting}
use Rattle.pg_heap.proofs.loading.sheets_at_rest.Goals as goal

pub returns : goal.returns
returns c =
    let homes : 3 + (c.args.homes - 3) ≡ c.args.homes = omega (arith, c.requires) in
    subst (λ (h : ℕ). IsResting c.in_ok-sheets.sheets.items h c.args.free.now) homes c.in_ok-sheets.ensures
