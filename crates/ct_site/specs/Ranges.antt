-- A range of bytes that is the same in two images.
use Rattle.std.specs.Prelude.{◌≡◌, ℕ, ◌≤◌, ◌<◌, List, get_or, zero, suc, codes, refl}
use Rattle.std.proofs.Common.{arith}

-- The bytes from `from` on, up to `to`, are the same. A byte past the end counts as 0.
pub record SameIn (from to : ℕ) (old new : List ℕ) : Type 0 where
  pub each : (i : ℕ) → from ≤ i → i < to → get_or new i 0 ≡ get_or old i 0

-- ---- computed example: the first two bytes are the same
the_first_two : SameIn 0 2 (codes "abc") (codes "abXY")
the_first_two = record { each = of }
  where
    of : (i : ℕ) → 0 ≤ i → i < 2 → get_or (codes "abXY") i 0 ≡ get_or (codes "abc") i 0
    of zero least less = refl
    of (suc zero) least less = refl
    of (suc (suc i)) least less = absurd (omega (arith, less))
