use Rattle.std.proofs.Common.{◌≡◌, ◌+◌, ◌-◌, take, drop, ap, ◌∙◌, arith}
use Rattle.ct_bytes.specs.laws.Varints.{text_within, text_length_at, text_from_parts, varint_at_one}
use Rattle.ct_bytes.proofs.texts.read_text.Goals as goal

pub returns-in_err-len-clause-none : goal.returns-in_err-len-clause-none
returns-in_err-len-clause-none c = rw c.from_residual.ensures (λ text next is. c.in_err-len.ensures.none _ _ (text_length_at _ _ text next is))

pub returns-in_err-text-clause-none : goal.returns-in_err-text-clause-none
returns-in_err-text-clause-none c = rw c.from_residual-in_err-text.ensures (λ text next is.
    let same = varint_at_one _ _ _ _ _ _ c.in_ok-len.ensures.some (text_length_at _ _ text next is) in
    let within = text_within _ _ text next is in
    let past = c.in_err-text.ensures.lookup.0 in
    omega (arith, same.0, same.1, is.end))

pub returns-clause-some : goal.returns-clause-some
returns-clause-some c =
    let look = c.in_ok-text.ensures.lookup.0 in
    let count : c.in_ok-len.start + c.in_ok-len.len - c.in_ok-len.start ≡ c.in_ok-len.len = omega arith in
    text_from_parts _ c.args.at _ c.in_ok-len.len c.in_ok-len.start c.in_ok-len.ensures.some (omega (arith, look.3)) (look.2 ∙ ap (λ k. take k (drop c.in_ok-len.start c.args.bytes.now)) count)
