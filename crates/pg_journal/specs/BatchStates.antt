-- A batch as contracts see it, and how its pages are kept.
use Rattle.std.specs.Prelude.{◌≡◌, ℕ, List, [], ◌∷◌, ◌++◌, suc, map, take, drop, nat_lt, get_or, Option, None, Some, replicate, refl, ◌==◌}
use Rattle.std.specs.Bool.{if◌then◌else◌}
use Rattle.std.specs.Int.{to_be_bytes, w32}
use Rattle.pg_journal.specs.Pages.{Numbered}

-- how many pages a batch may have, and its pages in order of their numbers
pub record BatchState : Type 0 where
  pub room : ℕ
  pub pages : List Numbered

-- the numbers of pages
abbrev pub numbers_in : List Numbered → List ℕ
numbers_in ws = map {B = ℕ} (λ w. w.0) ws

-- the pages of these numbers, whose bytes stand one behind the other
abbrev pub pages_in : List ℕ → List ℕ → List Numbered
pages_in [] bytes = []
pages_in (n ∷ ns) bytes = (n, take 4096 bytes) ∷ pages_in ns (drop 4096 bytes)

-- how many of the pages come before the first one whose number isn't below this one
abbrev pub place_in : ℕ → List Numbered → ℕ
place_in n [] = 0
place_in n (w ∷ ws) = if nat_lt w.0 n then suc (place_in n ws) else 0

-- the image of the page at an index
abbrev pub image_at : ℕ → List Numbered → List ℕ
image_at i ws = (get_or ws i (0, [])).1

-- the bytes of page 2, where it is the first page
abbrev pub root_in : List Numbered → Option (List ℕ)
root_in [] = None
root_in (w ∷ ws) = if w.0 == 2 then Some w.1 else None

-- numbers of four bytes each, the higher bytes first
abbrev pub spelled : List ℕ → List ℕ
spelled [] = []
spelled (n ∷ ns) = to_be_bytes w32 n ++ spelled ns

-- ---- computed examples
two_numbers : spelled (258 ∷ 7 ∷ []) ≡ 0 ∷ 0 ∷ 1 ∷ 2 ∷ 0 ∷ 0 ∷ 0 ∷ 7 ∷ []
two_numbers = refl

of_two_pages : pages_in (3 ∷ 5 ∷ []) (replicate 4096 1 ++ replicate 4096 2) ≡ (3, replicate 4096 1) ∷ (5, replicate 4096 2) ∷ []
of_two_pages = refl

behind_the_lower : place_in 4 ((2, []) ∷ (3, []) ∷ (5, []) ∷ []) ≡ 2
behind_the_lower = refl

the_second_image : image_at 1 ((3, replicate 4096 1) ∷ (5, replicate 4096 2) ∷ []) ≡ replicate 4096 2
the_second_image = refl
