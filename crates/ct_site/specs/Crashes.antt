-- What a crash of a site in memory leaves, by a pick of what stands in place of the bytes that aren't synced.
use Rattle.std.specs.Prelude.{◌≡◌, ℕ, ◌≤◌, List, [], ◌∷◌, ◌++◌, length, replicate, codes, refl}
use Rattle.std.proofs.Common.{inr, subst, arith}
use Rattle.ct_site.specs.declared.picks.Pick.{Pick}
use Rattle.ct_site.specs.declared.picks.Pick.TheVariants.{Old, New, Zeros, Ones}
use Rattle.ct_site.specs.Images.{written, Torn}
use Rattle.std.proofs.lemmas.List.{length-replicate}
use Rattle.ct_site.specs.Pieces.{length-written, torn_written, torn_none}
use Rattle.ct_site.specs.Histories.{DiskChange, Wrote, Synced, Said, DiskState, begun, next, disk_after}

-- what stands in place of bytes that were written
abbrev pub picked : Pick → List ℕ → List ℕ
picked Old bytes = bytes
picked New bytes = bytes
picked Zeros bytes = replicate (length bytes) 0
picked Ones bytes = replicate (length bytes) 255

-- what is left with a write more
abbrev pub left_with : Pick → List ℕ → ℕ → List ℕ → List ℕ
left_with Old left at bytes = left
left_with New left at bytes = written at (picked New bytes) left
left_with Zeros left at bytes = written at (picked Zeros bytes) left
left_with Ones left at bytes = written at (picked Ones bytes) left

-- with one call more, where this is what a read gave before it
abbrev pub left_after : Pick → List ℕ → List ℕ → DiskChange → List ℕ
left_after pick image left (Wrote at bytes) = left_with pick left at bytes
left_after pick image left Synced = image
left_after pick image left (Said bytes) = left

abbrev pub image_after : List ℕ → DiskChange → List ℕ
image_after image (Wrote at bytes) = written at bytes image
image_after image Synced = image
image_after image (Said bytes) = image

abbrev pub crash_from : Pick → List ℕ → List ℕ → List DiskChange → List ℕ
crash_from pick image left [] = left
crash_from pick image left (c ∷ cs) = crash_from pick (image_after image c) (left_after pick image left c) cs

-- what a crash leaves of a first image after these calls
abbrev pub crashed : Pick → List ℕ → List DiskChange → List ℕ
crashed pick first log = crash_from pick first first log

-- Each write begins within the image that is there.
abbrev pub AreWithin : List ℕ → List DiskChange → Type 0
AreWithin image [] = Unit {0}
AreWithin image (Wrote at bytes ∷ cs) = (at ≤ length image) × AreWithin (written at bytes image) cs
AreWithin image (Synced ∷ cs) = AreWithin image cs
AreWithin image (Said bytes ∷ cs) = AreWithin image cs

-- ---- law: it is one of the images that a crash may leave

-- but for the old bytes, what is left is as long as what a read gives
abbrev pub IsLong : Pick → List ℕ → List ℕ → Type 0
IsLong Old image left = Unit {0}
IsLong New image left = length left ≡ length image
IsLong Zeros image left = length left ≡ length image
IsLong Ones image left = length left ≡ length image

as_long : (pick : Pick) (bytes : List ℕ) → length (picked pick bytes) ≡ length bytes
as_long Old bytes = refl
as_long New bytes = refl
as_long Zeros bytes = length-replicate (length bytes) 0
as_long Ones bytes = length-replicate (length bytes) 255

torn_by : (pick : Pick) (left bytes : List ℕ) (at : ℕ) → at ≤ length left → Torn at (length bytes) left (written at (picked pick bytes) left)
torn_by pick left bytes at within = subst (λ (n : ℕ). Torn at n left (written at (picked pick bytes) left)) (as_long pick bytes) (torn_written at (picked pick bytes) left within)

long_by : (pick : Pick) (image left bytes : List ℕ) (at : ℕ) → length left ≡ length image → at ≤ length image → length (written at (picked pick bytes) left) ≡ length (written at bytes image)
long_by pick image left bytes at same within =
    let new = length-written at (picked pick bytes) left (omega (arith, same, within)) in
    let old = length-written at bytes image within in
    let count = as_long pick bytes in
    omega (arith, new, old, count, same)

torn_with : (pick : Pick) (image left bytes : List ℕ) (at : ℕ) → IsLong pick image left → at ≤ length image → Torn at (length bytes) left (left_with pick left at bytes)
torn_with Old image left bytes at same within = torn_none at (length bytes) left
torn_with New image left bytes at same within = torn_by New left bytes at (omega (arith, same, within))
torn_with Zeros image left bytes at same within = torn_by Zeros left bytes at (omega (arith, same, within))
torn_with Ones image left bytes at same within = torn_by Ones left bytes at (omega (arith, same, within))

long_with : (pick : Pick) (image left bytes : List ℕ) (at : ℕ) → IsLong pick image left → at ≤ length image → IsLong pick (written at bytes image) (left_with pick left at bytes)
long_with Old image left bytes at same within = tt
long_with New image left bytes at same within = long_by New image left bytes at same within
long_with Zeros image left bytes at same within = long_by Zeros image left bytes at same within
long_with Ones image left bytes at same within = long_by Ones image left bytes at same within

long_itself : (pick : Pick) (image : List ℕ) → IsLong pick image image
long_itself Old image = tt
long_itself New image = refl
long_itself Zeros image = refl
long_itself Ones image = refl

crash_in : (pick : Pick) (s : DiskState) (left : List ℕ) (cs : List DiskChange) → s.may_leave left → IsLong pick s.image left → AreWithin s.image cs → (disk_after s cs).may_leave (crash_from pick s.image left cs)
crash_in pick s left [] may long within = may
crash_in pick s left (Wrote at bytes ∷ cs) may long within =
    crash_in pick (next s (Wrote at bytes)) (left_with pick left at bytes) cs (inr (record { from = left; left = may; torn = torn_with pick s.image left bytes at long within.0 })) (long_with pick s.image left bytes at long within.0) within.1
crash_in pick s left (Synced ∷ cs) may long within = crash_in pick (next s Synced) s.image cs refl (long_itself pick s.image) within
crash_in pick s left (Said bytes ∷ cs) may long within = crash_in pick s left cs may long within

pub crashed_left : (pick : Pick) (first : List ℕ) (log : List DiskChange) → AreWithin first log → (disk_after (begun first) log).may_leave (crashed pick first log)
crashed_left pick first log within = crash_in pick (begun first) first log refl (long_itself pick first) within

-- one write more
within_push : (s : DiskState) (cs : List DiskChange) (c : DiskChange) → AreWithin s.image cs → AreWithin (disk_after s cs).image (c ∷ []) → AreWithin s.image (cs ++ c ∷ [])
within_push s [] c all one = one
within_push s (Wrote at bytes ∷ cs) c all one = (all.0, within_push (next s (Wrote at bytes)) cs c all.1 one)
within_push s (Synced ∷ cs) c all one = within_push (next s Synced) cs c all one
within_push s (Said bytes ∷ cs) c all one = within_push s cs c all one

pub within_after : (first : List ℕ) (log : List DiskChange) (c : DiskChange) → AreWithin first log → AreWithin (disk_after (begun first) log).image (c ∷ []) → AreWithin first (log ++ c ∷ [])
within_after first log c all one = within_push (begun first) log c all one

-- ---- computed examples: of `abcd`, over which `XY` was written and synced, and then `Z` behind its end
abbrev example : List DiskChange
example = Wrote 1 (codes "XY") ∷ Synced ∷ Wrote 4 (codes "Z") ∷ []

old_bytes : crashed Old (codes "abcd") example ≡ codes "aXYd"
old_bytes = refl

new_bytes : crashed New (codes "abcd") example ≡ codes "aXYdZ"
new_bytes = refl

zeros : crashed Zeros (codes "abcd") example ≡ codes "aXYd" ++ 0 ∷ []
zeros = refl

ones : crashed Ones (codes "abcd") example ≡ codes "aXYd" ++ 255 ∷ []
ones = refl
