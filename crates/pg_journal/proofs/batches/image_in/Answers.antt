use Rattle.std.proofs.Common.{◌≡◌, ◌+◌, ◌-◌, ◌*◌, ℕ, take, drop, ap, ◌∙◌, arith}
use Rattle.pg_journal.proofs.batches.image_in.Goals as goal

pub returns : goal.returns
returns c =
    let count : 4096 * c.args.index + 4096 - 4096 * c.args.index ≡ 4096 = omega arith in
    c.copy_from_slice.ensures.after ∙ ap (λ (n : ℕ). take n (drop (4096 * c.args.index) c.args.bytes.now)) count
