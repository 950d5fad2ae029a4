-- Which pages a cache keeps, and that it keeps those of the disk.
use Rattle.std.specs.Prelude.{◌≡◌, ◌≢◌, ◌⊎◌, ℕ, ◌+◌, ◌≤◌, ◌<◌, ◌==◌, List, [], ◌∷◌, length, get_or, Some, codes, refl}
use Rattle.std.specs.Bool.{if◌then◌else◌}
use Rattle.std.specs.List.{Contains}
use Rattle.std.proofs.Common.{arith}
use Rattle.std.proofs.lemmas.List.Elements.{Contains-push}
use Rattle.ct_site.specs.Disks.{DiskView}
use Rattle.pg_journal.specs.Pages.{Numbered, Has, home}
use Rattle.pg_journal.specs.Standing.{DiskStands}

-- A cache is the list of its places: the number of the home page that each has, or 0 where it has none, and its bytes.

-- the bytes at a place
abbrev pub bytes_at : List Numbered → ℕ → List ℕ
bytes_at cache at = (get_or cache at (0, [])).1

-- A page is kept: it stands at a place, under its number.
abbrev pub Keeps : List Numbered → Numbered → Type 0
Keeps cache w = Contains cache w × (1 ≤ w.0)

-- No page is kept.
pub record KeepsNone (cache : List Numbered) : Type 0 where
  pub none : (w : Numbered) → Keeps cache w → ⊥

-- Each page that is kept now was kept before.
pub record HasNoOther (old new : List Numbered) : Type 0 where
  pub each : (w : Numbered) → Keeps new w → Keeps old w

-- A page of this number was kept.
pub record WasKept (old : List Numbered) (number : ℕ) : Type 0 where
  pub bytes : List ℕ
  pub has : Keeps old (number, bytes)

-- a place, with these bytes where it has this number
abbrev pub renewed : ℕ → List ℕ → Numbered → Numbered
renewed number bytes w = if w.0 == number then (number, bytes) else w

-- Each page that is kept now was kept before and has another number, or has this number, has these bytes now, and was kept before with others.
pub record Renews (number : ℕ) (bytes : List ℕ) (old new : List Numbered) : Type 0 where
  pub each : (w : Numbered) → Keeps new w → (Keeps old w × (w.0 ≢ number)) ⊎ ((w ≡ (number, bytes)) × WasKept old number)

-- Each page that is kept now was kept before, perhaps with other bytes; it is that of the batch, or the batch has no page of its number
-- and it was kept as it is.
pub record RenewsAll (batch : List Numbered) (old new : List Numbered) : Type 0 where
  pub kept : (w : Numbered) → Keeps new w → WasKept old w.0
  pub each : (w : Numbered) → Keeps new w → Contains batch w ⊎ (Keeps old w × (Has batch w.0 → ⊥))

-- Each page that is kept is one of these, which begin with page 2, and has its bytes.
pub record Mirrors (cache : List Numbered) (pages : List (List ℕ)) : Type 0 where
  pub low : (w : Numbered) → Keeps cache w → 2 ≤ w.0
  pub high : (w : Numbered) → Keeps cache w → w.0 < 2 + length pages
  pub same : (w : Numbered) → Keeps cache w → w.1 ≡ home pages w.0

-- Where the disk tells its image it stands for pages, and each page that is kept is one of these.
pub record IsCacheOf (disk : DiskView) (homes : ℕ) (cache : List Numbered) : Type 0 where
  pub stands : (image : List ℕ) → disk.image ≡ Some image → (pages : List (List ℕ)) × DiskStands disk homes pages
  pub mirrors : (pages : List (List ℕ)) → DiskStands disk homes pages → Mirrors cache pages

-- ---- a cache that keeps no page keeps those of any disk that stands for pages
pub none_kept : (cache : List Numbered) (pages : List (List ℕ)) → KeepsNone cache → Mirrors cache pages
none_kept cache pages nothing = record {
  low = λ w has. absurd (nothing.none w has);
  high = λ w has. absurd (nothing.none w has);
  same = λ w has. absurd (nothing.none w has);
}

-- ---- computed examples: the bytes at a place, and a page that is kept, with its bytes
second_place : bytes_at ((0, codes "a") ∷ (3, codes "b") ∷ []) 1 ≡ codes "b"
second_place = refl

other_bytes : renewed 3 (codes "c") (3, codes "b") ≡ (3, codes "c")
other_bytes = refl

third : WasKept ((3, codes "b") ∷ []) 3
third = record { bytes = codes "b"; has = (Contains-push [] (3, codes "b"), omega arith) }

its_bytes : third.bytes ≡ codes "b"
unfolding third
its_bytes = refl
