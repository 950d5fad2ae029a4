-- Digits that were read are at most all digits.
use Rattle.std.proofs.Common.{◌≡◌, ℕ, ◌+◌, ◌*◌, ◌-◌, ◌^◌, ◌<◌, ◌≤◌, List, [], ◌∷◌, length, arith}
use Rattle.std.specs.List.{fold}

-- one more digit
abbrev pub next_digit : ℕ → ℕ → ℕ
next_digit n d = n * 10 + (d - 48)

grows : (n : ℕ) (digits : List ℕ) → n ≤ fold next_digit n digits
grows n [] = omega arith
grows n (d ∷ digits) = let more = grows (next_digit n d) digits in omega arith

pub too_large : (n v : ℕ) (digits : List ℕ) → 1 ≤ length digits → 922337203685477580 < n → fold next_digit n digits ≡ v → 2 ^ 63 < v
too_large n v [] some large all = absurd (omega arith)
too_large n v (d ∷ digits) some large all = let more = grows (next_digit n d) digits in omega arith
