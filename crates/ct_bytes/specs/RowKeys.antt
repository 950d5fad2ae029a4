-- Row keys as bytes whose order is that of the numbers.
use Rattle.std.specs.Prelude.{ℕ, ℤ, pos, negsuc, ◌≡◌, ◌+◌, ◌-◌, ◌^◌, List, [], ◌∷◌, refl}
use Rattle.std.specs.Int.{to_be_bytes, w64}

-- a number of 64 bits with its sign bit turned: the least is 0
abbrev pub sign_turned : ℤ → ℕ
sign_turned (pos n) = n + 2 ^ 63
sign_turned (negsuc n) = 2 ^ 63 - 1 - n

-- its eight bytes, the highest first
unfoldable pub row_bytes : ℤ → List ℕ
row_bytes z = to_be_bytes w64 (sign_turned z)

-- computed examples
seven : row_bytes (pos 7) ≡ 0x80 ∷ 0 ∷ 0 ∷ 0 ∷ 0 ∷ 0 ∷ 0 ∷ 7 ∷ []
unfolding row_bytes
seven = refl

minus_one : row_bytes (negsuc 0) ≡ 0x7f ∷ 0xff ∷ 0xff ∷ 0xff ∷ 0xff ∷ 0xff ∷ 0xff ∷ 0xff ∷ []
unfolding row_bytes
minus_one = refl

least : row_bytes (negsuc 9223372036854775807) ≡ 0 ∷ 0 ∷ 0 ∷ 0 ∷ 0 ∷ 0 ∷ 0 ∷ 0 ∷ []
unfolding row_bytes
least = refl
