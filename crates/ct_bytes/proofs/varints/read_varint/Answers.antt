use Rattle.std.proofs.Common.{length, ◌∙◌, arith}
use Rattle.std.proofs.lemmas.Slice.{between_to_end}
use Rattle.ct_bytes.specs.laws.Varints.{varint_within}
use Rattle.ct_bytes.proofs.ReadingSteps.{at_place, at_its_place}
use Rattle.ct_bytes.proofs.varints.read_varint.Goals as goal

pub returns-in_err-rest-clause-none : goal.returns-in_err-rest-clause-none
returns-in_err-rest-clause-none c = rw c.from_residual.ensures (λ n next is.
    let within = varint_within _ c.args.at n next is in
    let past = c.in_err-rest.ensures.lookup.0 in
    omega arith)

pub returns-in_err-number-clause-none : goal.returns-in_err-number-clause-none
returns-in_err-number-clause-none c = rw c.from_residual-in_err-number.ensures (λ n next is.
    let rest = c.in_ok-rest.ensures.lookup.0.2 ∙ between_to_end c.args.bytes.now c.args.at _ (omega arith) in
    c.in_err-number.ensures.none n _ (at_its_place _ _ _ n next rest is))

pub returns-clause-some : goal.returns-clause-some
returns-clause-some c =
    let rest = c.in_ok-rest.ensures.lookup.0.2 ∙ between_to_end c.args.bytes.now c.args.at (length c.args.bytes.now) (omega arith) in
    at_place _ _ _ _ _ rest c.in_ok-number.ensures.some
