-- How long an image is after calls of a disk, however they ended.
use Rattle.std.specs.Prelude.{◌≡◌, ℕ, ◌≤◌, max, List, length, Option, None, Some, codes, refl}
use Rattle.std.proofs.Common.{ap, arith}
use Rattle.ct_site.specs.Images.{written}
use Rattle.ct_site.specs.Disks.{DiskView}

-- What a read gives is no shorter than it was, and no longer than it was or than `end` bytes.
pub record Lengthens (end : ℕ) (old new : DiskView) : Type 0 where
  pub bounds : (image x : List ℕ) → old.image ≡ Some image → new.image ≡ Some x → (length image ≤ length x) × (length x ≤ max (length image) end)

-- A place within what a read gives, or at its end.
pub record IsWithin (at : ℕ) (disk : DiskView) : Type 0 where
  pub least : (image : List ℕ) → disk.image ≡ Some image → at ≤ length image

abbrev size_of : Option (List ℕ) → ℕ
size_of (Some l) = length l
size_of None = 0

-- ---- computed examples: an image of four bytes that was lengthened by two of the three that were to be written at its end
module _ (disk : DiskView) where
  longer : Lengthens 7 (record disk { image = Some (codes "abcd") }) (record disk { image = Some (codes "abcdXY") })
  longer = record {
    bounds = λ image x told given.
        let was : 4 ≡ length image = ap size_of told in
        let now : 6 ≡ length x = ap size_of given in
        (omega (arith, was, now), omega (arith, was, now));
  }

-- its end is a place within it
at_its_end : (disk : DiskView) → IsWithin 4 (record disk { image = Some (codes "abcd") })
at_its_end disk = record { least = λ image told. let was : 4 ≡ length image = ap size_of told in omega (arith, was) }

-- all three bytes, written at place 3, end at place 6
all_three : length (written 3 (codes "XYZ") (codes "abcd")) ≡ max 4 6
all_three = refl
