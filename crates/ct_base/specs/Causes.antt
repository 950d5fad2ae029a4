-- Faults and their causes. A count rises at each fault, and stands still at the end of its type, 2^64 - 1.
use Rattle.std.specs.Prelude.{ℕ, ◌≡◌, ◌+◌, ◌-◌, ◌^◌, ◌≤◌, min, refl}
use Rattle.std.proofs.Common.{arith}

-- the count rose, or stands at its last value
abbrev pub Rose : ℕ → ℕ → Type 0
Rose before now = min (before + 1) (2 ^ 64 - 1) ≤ now

-- computed examples: a count that rose, and one that stands at its last value, 2^64 - 1
rose_once : Rose 3 4
rose_once = omega arith

not_without_a_rise : Rose 3 3 → ⊥
not_without_a_rise h = omega (arith, h)

at_its_last_value : Rose (2 ^ 64 - 1) (2 ^ 64 - 1)
at_its_last_value = omega arith

-- where the count was 3, it rose exactly if it is now 4 at least
rose_means : (now : ℕ) → Rose 3 now ≡ (4 ≤ now)
rose_means now = refl
