-- Numbers as places.
use Rattle.std.proofs.Common.{◌≡◌, ℕ, ◌+◌, ◌-◌, ◌<◌, ◌^◌, List, [], ◌∷◌, length, arith}
use Rattle.std.specs.Coded.{coded_ℕ}
use Rattle.ct_bytes.specs.Varints.{IsVarintAt}
use Rattle.ct_bytes.specs.laws.Varints.{varint_at_one}
use Rattle.ix_posting.specs.Forms.{Rise, number_form}
use Rattle.ix_posting.specs.Places.{IsForm, IsPlaceAt}
use Rattle.ix_posting.specs.laws.Standing.{varint_stands, varint_is}

-- numbers that rise below 2 ^ 32 are fewer than those after the first of them
pub few_rise : (before : ℕ) (ns : List ℕ) → before < 2 ^ 32 → Rise before ns → before + length ns < 2 ^ 32
few_rise before [] small rise = omega arith
few_rise before (n ∷ ns) small rise = let rest = few_rise n ns rise.1 rise.2 in omega (arith, rise.0)

pub step_of : (bytes : List ℕ) (before at n next : ℕ) → IsPlaceAt number_form bytes before at n next → IsVarintAt bytes at (n - before) next
step_of bytes before at n next is = varint_is bytes at (n - before) next (omega (arith, is.alone)) is.stands

pub number_is : (bytes : List ℕ) (before at n next : ℕ) → before < n → n < 2 ^ 32 → IsVarintAt bytes at (n - before) next → IsPlaceAt number_form bytes before at n next
number_is bytes before at n next follows small step = record { follows = follows; alone = small; stands = varint_stands bytes at (n - before) next step }

pub number_alone : (bytes : List ℕ) (before at n i m j : ℕ) → IsPlaceAt number_form bytes before at n i → IsPlaceAt number_form bytes before at m j → (n ≡ m) × (i ≡ j)
number_alone bytes before at n i m j first second =
    let same = varint_at_one bytes at (n - before) i (m - before) j (step_of bytes before at n i first) (step_of bytes before at m j second) in
    (omega (arith, same.0, first.follows, second.follows), same.1)

pub numbers_are_read : IsForm number_form
numbers_are_read = record { one = number_alone; code = coded_ℕ }
