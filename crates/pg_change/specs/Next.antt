-- The pages of a store after a batch: those that the plan changed, with the pages of the directory among them.
use Rattle.std.specs.Prelude.{◌≡◌, ℕ, ◌-◌, List, [], ◌∷◌, length, map, get_or, codes, refl}
use Rattle.pg_map.specs.Kinds.{Each, Kind, Free, Slotted, IsKind}
use Rattle.pg_directory.specs.Trees.{StorePage, Plain}
use Rattle.pg_directory.specs.Written.{PageWrite, write_over, with_writes, with_free}

-- what is written under a number: the page of the directory that is to stand there, or else what the plan has
abbrev pub image_at : List Kind → List PageWrite → ℕ → StorePage
image_at now directory n = write_over directory n (Plain (get_or now (n - 3) Free))

abbrev pub page_writes : List Kind → List PageWrite → List ℕ → List PageWrite
page_writes now directory numbers = map {B = PageWrite} (λ (n : ℕ). (n, image_at now directory n)) numbers

-- so many free pages more, with all that is written
abbrev pub next_pages : List StorePage → List Kind → List PageWrite → List ℕ → List StorePage
next_pages pages now directory numbers = with_writes (page_writes now directory numbers) 3 (with_free (length now - length pages) pages)

-- What the draft has under each of these numbers may stand in a store.
abbrev pub HaveKinds : List Kind → List ℕ → Type 0
HaveKinds now numbers = Each (λ (n : ℕ). IsKind (get_or now (n - 3) Free)) numbers

-- ---- computed example: a page of entries in place of a free one, and one page more
a_page_more : next_pages (Plain Free ∷ []) (Slotted (codes "a" ∷ []) ∷ Free ∷ []) [] (3 ∷ 4 ∷ []) ≡ Plain (Slotted (codes "a" ∷ [])) ∷ Plain Free ∷ []
a_page_more = refl
