-- The bytes that birth writes.
use Rattle.std.specs.Prelude.{◌≡◌, ℕ, ◌≤◌, Bool, true, false, List, ◌++◌, length, take, codes, refl}
use Rattle.ct_site.specs.Disks.{DiskView, IsSettled}
use Rattle.pg_journal.specs.Pages.{byte, root_page}
use Rattle.ct_base.specs.Zeros.{zeros}
use Rattle.pg_journal.specs.Recovered.{mark}

-- those of the three pages of a new store but the first byte
unfoldable pub born : List ℕ
born = mark ++ (zeros 4096 ++ root_page 3 0)

-- The first byte is 0, and there are no more than three pages.
pub record IsCleared (image : List ℕ) : Type 0 where
  pub some : 1 ≤ length image
  pub first : byte image 0 ≡ 0
  pub most : length image ≤ 12288

pub record Cleared (disk : DiskView) : Type 0 where
  pub image : List ℕ
  pub settled : IsSettled disk image
  pub cleared : IsCleared image

-- an unborn image: it has at most one byte, or its first byte is 0
abbrev pub IsUnbornAs : Bool → List ℕ → Type 0
IsUnbornAs true image = length image ≤ 1
IsUnbornAs false image = IsCleared image

-- ---- computed example: behind the first byte the mark begins
mark_first : take 8 born ≡ codes "CTXSTORE"
unfolding born mark
mark_first = refl
