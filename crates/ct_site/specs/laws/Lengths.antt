-- Laws of lengths.
use Rattle.std.specs.Prelude.{◌≡◌, ℕ, ◌+◌, ◌≤◌, max, List, length, Option, None, Some}
use Rattle.std.specs.Option.{option_map}
use Rattle.std.proofs.Common.{refl, sym, ap, ◌∙◌, arith}
use Rattle.ct_site.specs.Images.{written}
use Rattle.ct_site.specs.Pieces.{length-written}
use Rattle.ct_site.specs.Disks.{DiskView}
use Rattle.ct_site.specs.Lengths.{Lengthens, IsWithin}

-- ---- how far it may grow

pub grows_more : (less more : ℕ) (old new : DiskView) → less ≤ more → Lengthens less old new → Lengthens more old new
grows_more less more old new within grows = record { bounds = λ image x told given. let b = grows.bounds image x told given in (b.0, omega (arith, b.1, within)) }

pub grows_same : (end : ℕ) (old new : DiskView) → new.image ≡ old.image → Lengthens end old new
grows_same end old new same = record {
  bounds = λ image x told given.
      let is : x ≡ image = cc (given, same ∙ told) in
      let long = ap (λ (l : List ℕ). length l) is in
      (omega (arith, long), omega (arith, long));
}

pub grows_between : (end : ℕ) (old mid new : DiskView) (image y x : List ℕ) → Lengthens end old mid → Lengthens end mid new → old.image ≡ Some image → mid.image ≡ Some y → new.image ≡ Some x
    → (length image ≤ length x) × (length x ≤ max (length image) end)
grows_between end old mid new image y x first second told between given =
    let one = first.bounds image y told between in
    let two = second.bounds y x between given in
    (omega (arith, one.0, two.0), omega (arith, one.1, two.1))

pub grows_then : (end : ℕ) (old mid new : DiskView) → (mid.image ≡ None → new.image ≡ None) → Lengthens end old mid → Lengthens end mid new → Lengthens end old new
grows_then end old mid new untold first second = record { bounds = λ image x told given. of mid.image refl image x told given }
  where
    of : (between : Option (List ℕ)) → mid.image ≡ between → (image x : List ℕ) → old.image ≡ Some image → new.image ≡ Some x → (length image ≤ length x) × (length x ≤ max (length image) end)
    of None is image x told given = absurd (cc (untold is, given))
    of (Some y) is image x told given = grows_between end old mid new image y x first second told is given

pub grows_written : (at : ℕ) (bytes : List ℕ) (old new : DiskView) → IsWithin at old → new.image ≡ option_map (written at bytes) old.image → Lengthens (at + length bytes) old new
grows_written at bytes old new within writes = record {
  bounds = λ image x told given.
      let is : x ≡ written at bytes image = cc (given, writes ∙ ap (option_map (written at bytes)) told) in
      let long = ap (λ (l : List ℕ). length l) is ∙ length-written at bytes image (within.least image told) in
      (omega (arith, long, within.least image told), omega (arith, long, within.least image told));
}

-- Within what was there it doesn't grow.
pub grows_inside : (end least more : ℕ) (old new : DiskView) → end ≤ least → IsWithin least old → Lengthens end old new → Lengthens more old new
grows_inside end least more old new inside within grows = record {
  bounds = λ image x told given.
      let b = grows.bounds image x told given in
      let long = within.least image told in
      (b.0, omega (arith, b.1, long, inside));
}

-- ---- places

pub within_less : (more least : ℕ) (disk : DiskView) → least ≤ more → IsWithin more disk → IsWithin least disk
within_less more least disk less within = record { least = λ image told. let long = within.least image told in omega (arith, long, less) }

-- A place that was within stays so.
pub within_grown : (least end : ℕ) (old new : DiskView) → (old.image ≡ None → new.image ≡ None) → Lengthens end old new → IsWithin least old → IsWithin least new
within_grown least end old new untold grows within = record { least = λ image told. of old.image refl image told }
  where
    of : (was : Option (List ℕ)) → old.image ≡ was → (image : List ℕ) → new.image ≡ Some image → least ≤ length image
    of None is image told = absurd (cc (untold is, told))
    of (Some y) is image told = let b = grows.bounds y image is told in let long = within.least y is in omega (arith, b.0, long)

pub within_same : (least : ℕ) (old new : DiskView) → new.image ≡ old.image → IsWithin least old → IsWithin least new
within_same least old new same within = record { least = λ image told. within.least image (sym same ∙ told) }
