-- How the sign bit is turned and turned back.
use Rattle.std.proofs.Common.{◌≡◌, ℕ, ℤ, pos, negsuc, ◌+◌, ◌-◌, ◌%◌, ◌^◌, ◌<◌, arith, FitsSigned, inl, inr}
use Rattle.std.specs.Int.{w64, cast_unsigned, cast_signed}
use Rattle.std.proofs.lemmas.Bool.{cases_lt, lt-ltb, le-ltb}
use Rattle.ct_bytes.specs.RowKeys.{sign_turned}

pub turned : (z : ℤ) → FitsSigned w64 z → (cast_unsigned w64 z + 2 ^ 63) % 2 ^ 64 ≡ sign_turned z
turned (pos n) fits = omega arith
turned (negsuc n) fits = omega arith

pub turned_back : (u : ℕ) → u < 2 ^ 64 → sign_turned (cast_signed w64 ((u + 2 ^ 63) % 2 ^ 64)) ≡ u
turned_back u small = elim (cases_lt u (2 ^ 63)) [
  | inl low ↦
      let m : (u + 2 ^ 63) % 2 ^ 64 ≡ u + 2 ^ 63 = omega arith in
      rw (m, le-ltb (u + 2 ^ 63) (2 ^ 63) (omega arith)) (omega arith)
  | inr high ↦
      let m : (u + 2 ^ 63) % 2 ^ 64 ≡ u - 2 ^ 63 = omega arith in
      rw (m, lt-ltb (u - 2 ^ 63) (2 ^ 63) (omega arith)) (omega arith)
]
