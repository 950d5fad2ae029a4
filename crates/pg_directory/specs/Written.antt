-- Pages of a store after some of them were written.
use Rattle.std.specs.Prelude.{◌≡◌, ℕ, zero, suc, ◌≤◌, ◌==◌, List, [], ◌∷◌, ◌++◌, map, codes, refl}
use Rattle.std.specs.Bool.{if◌then◌else◌}
use Rattle.pg_journal.specs.Pages.{Numbered, root_page}
use Rattle.pg_map.specs.Kinds.{Free, Slotted}
use Rattle.pg_directory.specs.Trees.{StorePage, Plain, bytes_of_page, IsPage}

-- a page that is written, under its number
abbrev pub PageWrite : Type 0
PageWrite = ℕ × StorePage

-- what stands under a number then: the page that was written, or else this one
abbrev pub write_over : List PageWrite → ℕ → StorePage → StorePage
write_over [] i p = p
write_over (w ∷ ws) i p = if w.0 == i then w.1 else write_over ws i p

-- pages, of which the first has this number, after the writes
abbrev pub with_writes : List PageWrite → ℕ → List StorePage → List StorePage
with_writes ws i [] = []
with_writes ws i (p ∷ ps) = write_over ws i p ∷ with_writes ws (suc i) ps

-- so many free pages more
abbrev pub with_free : ℕ → List StorePage → List StorePage
with_free zero ps = ps
with_free (suc n) ps = with_free n (ps ++ Plain Free ∷ [])

abbrev pub write_numbers : List PageWrite → List ℕ
write_numbers ws = map {B = ℕ} (λ (w : PageWrite). w.0) ws

abbrev pub images_of : List PageWrite → List Numbered
images_of ws = map {B = Numbered} (λ (w : PageWrite). (w.0, bytes_of_page w.1)) ws

-- the batch of a root and of these pages
abbrev pub store_batch : ℕ → ℕ → List PageWrite → List Numbered
store_batch homes top ws = (2, root_page homes top) ∷ images_of ws

-- The numbers rise, from one on and below another, and each page may stand in a store.
abbrev pub AreWrites : ℕ → ℕ → List PageWrite → Type 0
AreWrites low end [] = Unit {0}
AreWrites low end (w ∷ ws) = (low ≤ w.0) × (suc w.0 ≤ end) × IsPage w.1 × AreWrites (suc w.0) end ws

-- ---- computed examples: of two pages the second is written, and of one free page more
abbrev one : StorePage
one = Plain (Slotted (codes "a" ∷ []))

the_second : with_writes ((4, one) ∷ []) 3 (Plain Free ∷ Plain Free ∷ []) ≡ Plain Free ∷ one ∷ []
the_second = refl

one_more : with_free 1 (one ∷ []) ≡ one ∷ Plain Free ∷ []
one_more = refl
