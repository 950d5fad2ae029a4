use Rattle.std.proofs.Common.{◌-◌, arith}
use Rattle.ct_bytes.specs.laws.Varints.{varint_at_one}
use Rattle.ix_posting.specs.laws.Numbers.{step_of, number_is}
use Rattle.ix_posting.proofs.numbers.read_number.Goals as goal

pub returns-in_err-number-clause-none : goal.returns-in_err-number-clause-none
returns-in_err-number-clause-none c = rw c.from_residual-in_err-number.ensures (λ n next is.
    let same = varint_at_one _ _ _ _ _ _ (step_of _ _ _ _ _ is) c.in_ok-step.ensures.some in
    c.in_err-number.ensures (omega (arith, same.0, is.follows, is.alone)))

pub returns-then-number-before-clause-none : goal.returns-then-number-before-clause-none
returns-then-number-before-clause-none c = λ n next is.
    let same = varint_at_one _ _ _ _ _ _ (step_of _ _ _ _ _ is) c.in_ok-step.ensures.some in
    omega (arith, same.0, is.follows, c.in_ok-number.ensures.1, c.if-number-before.true)
