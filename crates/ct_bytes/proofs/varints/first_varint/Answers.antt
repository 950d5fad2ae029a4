use Rattle.std.proofs.Common.{◌≡◌, ◌⊎◌, ◌<◌, ◌+◌, ◌*◌, take, arith, inl, inr, ap, sym, ◌∙◌}
use Rattle.ct_bytes.specs.Varints.{varint}
use Rattle.ct_bytes.proofs.ReadingSteps.{nothing_read, read_more, read_last, is_at, not_ended, not_longer, not_zero, not_large, cast_ok, cast_err}
use Rattle.ct_bytes.proofs.varints.first_varint.Goals as goal
use Rattle.ct_bytes.proofs.varints.first_varint.Goals.{else-byte-eq0-via-then-byte-eq0+else-i-gt0, else-byte-eq0-via-else-byte-eq0}

pub loop-i-init : goal.loop-i-init
loop-i-init c = nothing_read c.args.bytes.now

pub loop-i-preserved : goal.loop-i-preserved
loop-i-preserved c =
    let byte = c.in_ok-byte.ensures.lookup in
    rw c.from.ensures (read_more _ _ _ _ _ c.loop-i.invariant byte.3.0 (byte.3.1 0) c.if-byte-lt128.false (omega (arith, byte.3.1 0, c.type_inv.bytes c.loop-i.i)))

pub returns-in_err-byte-clause-none : goal.returns-in_err-byte-clause-none
returns-in_err-byte-clause-none c = rw c.from_residual.ensures (λ n next is. not_ended _ n next c.loop-i.i is c.loop-i.invariant.high (c.in_err-byte.ensures.lookup.3))

pub returns-then-i-gt0-clause-none : goal.returns-then-i-gt0-clause-none
returns-then-i-gt0-clause-none c = λ n next is.
    let byte = c.in_ok-byte.ensures.lookup in
    not_zero _ n next c.loop-i.i is c.loop-i.invariant.high c.if-i-gt0.true (sym c.if-byte-eq0.true ∙ byte.3.1 0)

-- what the bytes up to the last one spell, where it fits and where it doesn't
spelt : (c : goal.In_ok-number) → varint (c.loop-i.number + c.from.result * c.loop-i.weight) ≡ take (c.loop-i.i + 1) c.args.bytes.now
spelt c =
    let byte = c.in_ok-byte.ensures.lookup in
    let last : (0 < c.in_ok-byte.field-0.now) ⊎ (c.loop-i.i ≡ 0) =
    elim c.else-byte-eq0.branch [
      | else-byte-eq0-via-then-byte-eq0+else-i-gt0 w ↦ inr (omega (arith, w.if-i-gt0.false))
      | else-byte-eq0-via-else-byte-eq0 w ↦ inl (omega (arith, w.if-byte-eq0.false))
    ] in
    rw c.from.ensures (read_last _ c.loop-i.i _ _ _ c.loop-i.invariant (omega arith) byte.3.0 (byte.3.1 0) c.if-byte-lt128.true last)

spelt_large : (c : goal.After-from_residual-in_err-number) → varint (c.loop-i.number + c.from.result * c.loop-i.weight) ≡ take (c.loop-i.i + 1) c.args.bytes.now
spelt_large c =
    let byte = c.in_ok-byte.ensures.lookup in
    let last : (0 < c.in_ok-byte.field-0.now) ⊎ (c.loop-i.i ≡ 0) =
    elim c.else-byte-eq0.branch [
      | else-byte-eq0-via-then-byte-eq0+else-i-gt0 w ↦ inr (omega (arith, w.if-i-gt0.false))
      | else-byte-eq0-via-else-byte-eq0 w ↦ inl (omega (arith, w.if-byte-eq0.false))
    ] in
    rw c.from.ensures (read_last _ c.loop-i.i _ _ _ c.loop-i.invariant (omega arith) byte.3.0 (byte.3.1 0) c.if-byte-lt128.true last)

pub returns-in_err-number-clause-none : goal.returns-in_err-number-clause-none
returns-in_err-number-clause-none c = rw c.from_residual-in_err-number.ensures (λ n next is.
    let large = cast_err _ _ c.try_from.ensures c.in_err-number.ensures.value in
    not_large _ n next c.loop-i.i is (c.loop-i.number + c.from.result * c.loop-i.weight) (spelt_large c) (omega (arith, large)))

pub returns-then-byte-lt128-clause-some : goal.returns-then-byte-lt128-clause-some
returns-then-byte-lt128-clause-some c =
    let byte = c.in_ok-byte.ensures.lookup in
    let number = cast_ok _ _ _ c.try_from.ensures c.in_ok-number.ensures.value in
    is_at _ c.loop-i.i _ (ap varint number.1 ∙ spelt c) byte.3.0 (omega (arith, number.0, number.1))

pub returns-clause-none : goal.returns-clause-none
returns-clause-none c = λ n next is. not_longer _ n next c.loop-i.i is c.loop-i.invariant.high (omega arith)
