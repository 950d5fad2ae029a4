use Rattle.std.proofs.Common.{◌≡◌, ◌+◌, ◌-◌, ◌*◌, ℕ, ap, ◌∙◌, take, drop, arith}
use Rattle.pg_directory.proofs.Builds.{slice_named}
use Rattle.pg_directory.proofs.leaves.entries_there.Goals as goal

pub returns : goal.returns
returns c =
    let e : (681 * c.args.before + c.min-count.result) - 681 * c.args.before ≡ c.min-count.result = omega arith in
    slice_named 681 c.args.places.now c.in_ok-own.own.items (681 * c.args.before) c.min-count.result c.min-count.ensures
    (c.in_ok-own.ensures.items ∙ ap (λ (n : ℕ). take n (drop (681 * c.args.before) c.args.places.now)) e)
