use Rattle.std.proofs.Common.{◌≡◌, ℕ, drop, ap, ◌∙◌, arith}
use Rattle.pg_window.specs.Loading.{rested}
use Rattle.pg_window.specs.laws.Loads.{all_rest}
use Rattle.pg_window.proofs.unloading.rest.Goals as goal

pub returns-clause-rests : goal.returns-clause-rests
returns-clause-rests c = λ lists.
    let none : c.loop-count.count ≡ 0 = omega (arith, c.loop-count-test.false) in
    c.loop-count.invariant.rests ∙ ap (λ (n : ℕ). rested (drop n c.args.places.now) c.args.sheets.now.items) none ∙ all_rest c.args.places.now c.args.sheets.now.items lists
