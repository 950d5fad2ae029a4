-- Writes: one, and several, one behind the other, that count as one.
use Rattle.std.specs.Prelude.{◌≡◌, ℕ, ◌+◌, ◌^◌, ◌<◌, List, ◌++◌, length, Some, Result, Ok, OnOk, IsErr, codes, refl}
use Rattle.std.specs.Option.{option_map}
use Rattle.ct_site.specs.declared.outside.Failed.{Failed}
use Rattle.ct_site.specs.Images.{written, Torn}
use Rattle.ct_site.specs.Disks.{DiskView, FollowsBy, Leaves, Works}
use Rattle.ct_site.specs.Lengths.{Lengthens, IsWithin}

-- What one write of bytes at this place does: after Ok a read gives the image with them. It fails where they would end past 2 ^ 43 bytes.
-- A crash leaves what it might have left before, with some of them; and nothing was synced.
pub record IsWrite {T : Type 0} (at : ℕ) (bytes : List ℕ) (old new : DiskView) (result : Result T Failed) : Type 0 where
  pub is : OnOk result (new.image ≡ option_map (written at bytes) old.image)
  pub too_far : 2 ^ 43 < at + length bytes → IsErr result
  pub crash : FollowsBy (Torn at (length bytes)) old.may_leave new.may_leave
  pub leaves : Leaves old new new.may_leave
  pub grows : Lengthens (at + length bytes) old new
  pub syncs : new.syncs ≡ old.syncs
  pub works : Works old new result

-- An image that a crash may leave of one that it might have left before, after a write of so many bytes that was cut short.
pub record IsCutShort (at n : ℕ) (old : DiskView) (image : List ℕ) : Type 0 where
  pub before : List ℕ
  pub left : old.may_leave before
  pub torn : Torn at n before image

-- The bytes were written at this place, in as many writes as it took, and nothing was synced.
pub record Writes (at : ℕ) (bytes : List ℕ) (old new : DiskView) (result : Result (Unit {0}) Failed) : Type 0 where
  pub written : OnOk result (new.image ≡ option_map (written at bytes) old.image)
  pub leaves : Leaves old new (IsCutShort at (length bytes) old)
  pub grows : Lengthens (at + length bytes) old new

-- Of all bytes some were written, and these are left, from the place `next` on.
pub record Progress (at next : ℕ) (all rest : List ℕ) (old now : DiskView) : Type 0 where
  pub done : List ℕ
  pub is : done ++ rest ≡ all
  pub place : next ≡ at + length done
  pub here : IsWithin at old
  pub within : IsWithin next now
  pub writes : Writes at done old now (Ok tt)

-- What a read gives has P.
pub record DiskGives (P : List ℕ → Type 0) (disk : DiskView) : Type 0 where
  pub image : List ℕ
  pub is : disk.image ≡ Some image
  pub has : P image

-- ---- computed example: two writes, one behind the other, that are one
in_two_pieces : written 3 (codes "Z") (written 1 (codes "XY") (codes "abcd")) ≡ written 1 (codes "XYZ") (codes "abcd")
in_two_pieces = refl
