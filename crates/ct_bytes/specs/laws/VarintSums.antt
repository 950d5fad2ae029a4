-- Varints as what they are: a number is the sum of seven bits a byte, and only the last byte has no top bit.
use Rattle.std.proofs.Common.{◌≡◌, ℕ, zero, suc, ◌+◌, ◌*◌, ◌/◌, ◌%◌, ◌^◌, ◌<◌, ◌≤◌, List, [], ◌∷◌, length, refl, ap, inl, inr, arith}
use Rattle.std.proofs.lemmas.Bool.{cases_lt}
use Rattle.ct_bytes.specs.Promises.{sum_of_bits, HasTopBits, last_byte, VarintsAreSums, VarintsHaveTopBits, VarintsEndInNoZero}
use Rattle.ct_bytes.specs.Varints.{varint, varint_in}
use Rattle.ct_bytes.specs.laws.Varints.{varint_last, varint_more}

-- how many numbers have varints with at most `more` bytes before the last
room : ℕ → ℕ
room zero = 128
room (suc more) = 128 * room more

sum_in : (more n : ℕ) → n < room more → sum_of_bits (varint_in more n) ≡ n
unfolding room
sum_in zero n fits = omega (arith, fits)
sum_in (suc more) n fits = elim (cases_lt n 128) [
  | inl last ↦ rw (varint_last (suc more) n last) (omega (arith, last))
  | inr large ↦ rw (varint_more more n large) (let rest = sum_in more (n / 128) (omega (arith, fits)) in omega (arith, rest))
]

bits_before : (b : ℕ) (bs : List ℕ) → 128 ≤ b → b < 256 → HasTopBits bs → HasTopBits (b ∷ bs)
bits_before b [] top byte rest = absurd rest
bits_before b (c ∷ bs) top byte rest = (top, byte, rest)

bits_in : (more n : ℕ) → n < room more → HasTopBits (varint_in more n)
unfolding room
bits_in zero n fits = fits
bits_in (suc more) n fits = elim (cases_lt n 128) [
  | inl last ↦ rw (varint_last (suc more) n last) last
  | inr large ↦ rw (varint_more more n large) (bits_before (128 + n % 128) (varint_in more (n / 128)) (omega arith) (omega arith) (bits_in more (n / 128) (omega (arith, fits))))
]

last_behind : (b : ℕ) (bs : List ℕ) → HasTopBits bs → last_byte (b ∷ bs) ≡ last_byte bs
last_behind b [] some = absurd some
last_behind b (c ∷ bs) some = refl

last_in : (more n : ℕ) → n < room more → 1 ≤ n → 1 ≤ last_byte (varint_in more n)
unfolding room
last_in zero n fits some = some
last_in (suc more) n fits some = elim (cases_lt n 128) [
  | inl last ↦ rw (varint_last (suc more) n last) some
  | inr large ↦
      let within : n / 128 < room more = omega (arith, fits) in
      rw (varint_more more n large, last_behind (128 + n % 128) (varint_in more (n / 128)) (bits_in more (n / 128) within))
      (last_in more (n / 128) within (omega (arith, large)))
]

within_room : (n : ℕ) → n < 2 ^ 32 → n < room 4
unfolding room
within_room n small = omega (arith, small)

pub varints_are_sums : VarintsAreSums
unfolding varint
varints_are_sums n small = sum_in 4 n (within_room n small)

pub varints_have_top_bits : VarintsHaveTopBits
unfolding varint
varints_have_top_bits n small = bits_in 4 n (within_room n small)

pub varints_end_in_no_zero : VarintsEndInNoZero
unfolding varint
varints_end_in_no_zero n small long = elim (cases_lt n 1) [
  | inl none ↦
      let zero_it_is : n ≡ 0 = omega (arith, none) in
      let one : length (varint n) ≡ 1 = ap (λ k. length (varint k)) zero_it_is in
      absurd (omega (arith, one, long))
  | inr some ↦ last_in 4 n (within_room n small) some
]
