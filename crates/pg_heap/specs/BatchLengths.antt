-- How long a file is at most behind a batch.
use Rattle.std.specs.Prelude.{◌≡◌, ◌⊎◌, ◌≤◌, ℕ, ◌+◌, ◌-◌, ◌*◌, ◌^◌, max, List, [], ◌∷◌, length, Some, codes, refl}
use Rattle.ct_site.specs.Disks.{DiskView}
use Rattle.ct_site.specs.Lengths.{Lengthens}
use Rattle.ct_keep.specs.Content.{Content, Change}
use Rattle.pg_batch.specs.BatchPages.{put_pages}
use Rattle.pg_batch.specs.RoughPages.{rough_pages}

-- How many home pages are enough for changes, where there are so many and these are free: those that there are, or, where the free ones aren't
-- enough, the others and those of the entries that are put; and what the directory may need.
abbrev pub homes_enough : ℕ → List ℕ → List Change → ℕ
homes_enough homes free ws = max homes (homes - length free + put_pages ws) + 2 * homes + 1024 * length ws

-- There are no numbers for so many pages, or the file is no longer than it was, or than eight times as many pages as there were and as the
-- rough bound on the changes says.
abbrev pub EndsWithin : ℕ → List ℕ → List Change → Content → DiskView → DiskView → Type 0
EndsWithin homes free ws m old new = (2 ^ 31 ≤ homes_enough homes free ws) ⊎ Lengthens (4096 * (8 * (homes + rough_pages ws m))) old new

-- ---- computed example: of ten home pages two are free; an entry that is put takes one of these, and the directory at most 2 * 10 + 1,024
one_put : homes_enough 10 (0 ∷ 4 ∷ []) ((codes "k", Some (codes "v")) ∷ []) ≡ 1054
one_put = refl
