-- What a write makes of an image, and what a crash makes of a write.
use Rattle.std.specs.Prelude.{◌≡◌, ℕ, ◌+◌, ◌≤◌, max, List, ◌++◌, length, take, drop, codes, refl}
use Rattle.std.proofs.Common.{arith}

-- the image with these bytes at this place
abbrev pub written : ℕ → List ℕ → List ℕ → List ℕ
written at bytes image = take at image ++ bytes ++ drop (at + length bytes) image

-- A write of n bytes at a place was cut short: any bytes stand in its range and past the old end, and any length between the old and the new one is
-- there; all else is as before.
pub record Torn (at n : ℕ) (old new : List ℕ) : Type 0 where
  pub before : take at new ≡ take at old
  pub after : drop (at + n) new ≡ drop (at + n) old
  pub no_shorter : length old ≤ length new
  pub no_longer : length new ≤ max (length old) (at + n)

-- ---- computed examples: within the image, past its end, and a write that was cut short at the end
within : written 2 (codes "XY") (codes "abcdef") ≡ codes "abXYef"
within = refl

past_the_end : written 3 (codes "XYZ") (codes "abcd") ≡ codes "abcXYZ"
past_the_end = refl

cut_short : Torn 3 3 (codes "abcd") (codes "abc?!")
cut_short = record { before = refl; after = refl; no_shorter = omega arith; no_longer = omega arith }
