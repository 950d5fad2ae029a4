-- How a pair is read from its two differences.
use Rattle.std.proofs.Common.{◌≡◌, ℕ, ◌+◌, ◌-◌, List, arith}
use Rattle.ct_base.specs.declared.numbers.Pair.{Pair}
use Rattle.ct_bytes.specs.Varints.{IsVarintAt}
use Rattle.ct_bytes.specs.laws.Varints.{varint_at_one}
use Rattle.ix_posting.specs.Forms.{pair_form}
use Rattle.ix_posting.specs.Places.{IsPlaceAt}
use Rattle.ix_posting.specs.laws.Pairs.{first-follows, steps_of}

pub extent_at : (bytes : List ℕ) (before : Pair) (at : ℕ) (p : Pair) (i step mid : ℕ) → IsVarintAt bytes at step mid → IsPlaceAt pair_form bytes before at p i → IsVarintAt bytes mid (p.last - p.first) i
extent_at bytes before at p i step mid step_is is =
    let its = steps_of bytes before at p i is in
    let same = varint_at_one bytes at (p.first - before.first) its.mid step mid its.step step_is in
    rw same.1 at its.extent

pub pair_sums : (bytes : List ℕ) (before : Pair) (at : ℕ) (p : Pair) (i step mid extent next : ℕ) → IsVarintAt bytes at step mid → IsVarintAt bytes mid extent next → IsPlaceAt pair_form bytes before at p i → (p.first ≡ before.first + step) × (p.last ≡ before.first + step + extent)
pair_sums bytes before at p i step mid extent next step_is extent_is is =
    let its = steps_of bytes before at p i is in
    let first = varint_at_one bytes at (p.first - before.first) its.mid step mid its.step step_is in
    let last = varint_at_one bytes mid (p.last - p.first) i extent next (extent_at bytes before at p i step mid step_is is) extent_is in
    (omega (arith, first.0, first-follows before p is.follows), omega (arith, first.0, last.0, is.alone.1, first-follows before p is.follows))
