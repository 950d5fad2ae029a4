use Rattle.std.proofs.Common.{arith}
use Rattle.ct_bytes.specs.laws.Varints.{varint_at_one}
use Rattle.ix_posting.specs.laws.Numbers.{number_alone}
use Rattle.ix_posting.proofs.reading.read_head.Goals as goal

pub returns-in_err-count-clause-none : goal.returns-in_err-count-clause-none
returns-in_err-count-clause-none c = rw c.from_residual-in_err-count.ensures (λ document count next is.
    let number = number_alone _ _ _ _ _ _ _ is.number c.in_ok-document.ensures.some in
    c.in_err-count.ensures.none _ _ (rw number.1 at is.places))

pub returns-then-count-eq0-clause-none : goal.returns-then-count-eq0-clause-none
returns-then-count-eq0-clause-none c = λ document count next is.
    let number = number_alone _ _ _ _ _ _ _ is.number c.in_ok-document.ensures.some in
    let places = varint_at_one _ _ _ _ _ _ (rw number.1 at is.places) c.in_ok-count.ensures.some in
    omega (arith, places.0, is.some, c.if-count-eq0.true)
