-- The places of free pages.
use Rattle.std.specs.Prelude.{◌≡◌, ◌≤◌, ℕ, zero, suc, ◌+◌, ◌==◌, max, if◌then◌else◌, List, [], ◌∷◌, length, codes, refl}
use Rattle.pg_map.specs.Kinds.{Kind, Free, Slotted, Long}

-- The places that there were before a batch, and those that there are now.
pub record FreePlaces : Type 0 where
  pub before : List ℕ
  pub now : List ℕ

-- how often a place is listed
abbrev pub times_listed : List ℕ → ℕ → ℕ
times_listed [] at = 0
times_listed (x ∷ xs) at = (if x == at then 1 else 0) + times_listed xs at

abbrev pub one_if_free : Kind → ℕ
one_if_free Free = 1
one_if_free (Slotted ss) = 0
one_if_free (Long next bytes) = 0

-- 1 where the page at a place is there and free, else 0
abbrev pub free_at : List Kind → ℕ → ℕ
free_at [] at = 0
free_at (k ∷ ks) zero = one_if_free k
free_at (k ∷ ks) (suc at) = free_at ks at

-- Each free page is listed once, and nothing else is.
pub record ListsFree (kinds : List Kind) (places : List ℕ) : Type 0 where
  pub each : (at : ℕ) → times_listed places at ≡ free_at kinds at

-- how many pages aren't free
abbrev pub used_pages : List Kind → ℕ
used_pages [] = 0
used_pages (Free ∷ ks) = used_pages ks
used_pages (Slotted ss ∷ ks) = suc (used_pages ks)
used_pages (Long next bytes ∷ ks) = suc (used_pages ks)

-- At most so many pages more are used, and there are more pages only where those that there were aren't enough.
pub record NeedsPages (old new : List Kind) (pages : ℕ) : Type 0 where
  pub used : used_pages new ≤ used_pages old + pages
  pub all : length new ≤ max (length old) (used_pages old + pages)

-- ---- computed examples
the_second_page : free_at (Slotted (codes "a" ∷ []) ∷ Free ∷ []) 1 ≡ 1
the_second_page = refl

none_behind_the_last : free_at (Free ∷ []) 1 ≡ 0
none_behind_the_last = refl

one_of_two : used_pages (Slotted (codes "a" ∷ []) ∷ Free ∷ []) ≡ 1
one_of_two = refl
