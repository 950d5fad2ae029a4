-- What holds of the bytes of every row key.
use Rattle.std.proofs.Common.{◌≡◌, ℕ, ℤ, pos, negsuc, ◌<◌, ◌+◌, ◌-◌, ◌^◌, List, ◌++◌, refl, sym, ap, inl, inr, ◌∙◌, arith, FitsSigned}
use Rattle.std.specs.Ordering.{nat_cmp, int_cmp}
use Rattle.std.specs.Int.{from_be_bytes, w64}
use Rattle.std.proofs.lemmas.Bool.{cases_order, lt-ltb, le-ltb}
use Rattle.std.proofs.lemmas.Nat.{from_be_bytes-to_be_bytes_8}
use Rattle.ct_bytes.specs.RowKeys.{sign_turned, row_bytes}
use Rattle.ct_bytes.specs.laws.ByteOrder.{nat_cmp_less, nat_cmp_equal, nat_cmp_greater, compare_alike, eight_bytes_in_order}
use Rattle.ct_base.specs.laws.Lists.{append_parts}
use Rattle.ct_bytes.specs.Promises.{KeysHaveEightBytes, KeysHaveTheirOwnBytes, BytesAreInKeyOrder}

pub length-row_bytes : KeysHaveEightBytes
unfolding row_bytes
length-row_bytes z = refl

raised_fits : (z : ℤ) → FitsSigned w64 z → sign_turned z < 2 ^ 64
raised_fits (pos n) fits = omega arith
raised_fits (negsuc n) fits = omega arith

raised_one : (a b : ℤ) → FitsSigned w64 a → FitsSigned w64 b → sign_turned a ≡ sign_turned b → a ≡ b
raised_one (pos m) (pos n) f g e = ap pos (omega arith)
raised_one (pos m) (negsuc n) f g e = absurd (omega arith)
raised_one (negsuc m) (pos n) f g e = absurd (omega arith)
raised_one (negsuc m) (negsuc n) f g e = ap negsuc (omega arith)

pub row_bytes_one : KeysHaveTheirOwnBytes
unfolding row_bytes
row_bytes_one a b f g e =
    raised_one a b f g (sym (from_be_bytes-to_be_bytes_8 (sign_turned a) (raised_fits a f)) ∙ ap (from_be_bytes w64) e ∙ from_be_bytes-to_be_bytes_8 (sign_turned b) (raised_fits b g))

both_above : (m n : ℕ) → nat_cmp m n ≡ int_cmp (pos m) (pos n)
both_above m n = elim (cases_order m n) [
  | inl h ↦ nat_cmp_equal m n h ∙ rw (le-ltb m n (omega arith), le-ltb n m (omega arith)) refl
  | inr h ↦ elim h [
    | inl h ↦ nat_cmp_less m n h ∙ rw (lt-ltb m n h) refl
    | inr h ↦ nat_cmp_greater m n h ∙ rw (le-ltb m n (omega arith), lt-ltb n m h) refl
  ]
]

raised_in_order : (a b : ℤ) → FitsSigned w64 a → FitsSigned w64 b → nat_cmp (sign_turned a) (sign_turned b) ≡ int_cmp a b
raised_in_order (pos m) (pos n) f g = compare_alike m n (m + 2 ^ 63) (n + 2 ^ 63) (λ h. omega arith) (λ h. omega arith) (λ h. omega arith) ∙ both_above m n
raised_in_order (pos m) (negsuc n) f g = nat_cmp_greater (m + 2 ^ 63) (2 ^ 63 - 1 - n) (omega arith)
raised_in_order (negsuc m) (pos n) f g = nat_cmp_less (2 ^ 63 - 1 - m) (n + 2 ^ 63) (omega arith)
raised_in_order (negsuc m) (negsuc n) f g = compare_alike n m (2 ^ 63 - 1 - m) (2 ^ 63 - 1 - n) (λ h. omega arith) (λ h. omega arith) (λ h. omega arith) ∙ both_above n m

pub row_bytes_in_order : BytesAreInKeyOrder
unfolding row_bytes
row_bytes_in_order a b f g = eight_bytes_in_order (sign_turned a) (sign_turned b) (raised_fits a f) (raised_fits b g) ∙ raised_in_order a b f g

pub row_bytes_apart : (a b : ℤ) (r s : List ℕ) → FitsSigned w64 a → FitsSigned w64 b → row_bytes a ++ r ≡ row_bytes b ++ s → (a ≡ b) × (r ≡ s)
row_bytes_apart a b r s f g e =
    let parts = append_parts (row_bytes a) (row_bytes b) r s (length-row_bytes a ∙ sym (length-row_bytes b)) e in
    (row_bytes_one a b f g parts.0, parts.1)
