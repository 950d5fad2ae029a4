-- The map that an image tells, read from its bytes with no test.
use Rattle.std.specs.Prelude.{◌≡◌, ℕ, ◌+◌, ◌==◌, List, [], ◌∷◌, length, map, refl}
use Rattle.std.specs.Bool.{if◌then◌else◌}
use Rattle.ct_base.specs.Zeros.{zeros}
use Rattle.ct_keep.specs.Content.{Content}
use Rattle.pg_journal.specs.Pages.{page, homes_of, root_page}
use Rattle.pg_map.specs.MapReading.{first_byte, map_in}

-- A page of a directory has no entry and no part of a value: to the map it is as a free one.
unfoldable pub without_directory : List ℕ → List ℕ
without_directory bytes = if first_byte bytes == 3 then zeros 4096 else bytes

-- the pages from a root on, as those of a store without a directory
abbrev pub undirected : List (List ℕ) → List (List ℕ)
undirected [] = []
undirected (root ∷ pages) = root_page (3 + length pages) 0 ∷ map without_directory pages

-- the map of the home pages, of which the root says how many there are
abbrev pub told_map : List ℕ → Content
told_map image = map_in (undirected (homes_of (page image)))

-- ---- computed examples: a page that begins with 3 is of a directory, and one that begins with 1 has entries
of_a_directory : without_directory (3 ∷ 0 ∷ []) ≡ zeros 4096
unfolding without_directory
of_a_directory = refl

with_entries : without_directory (1 ∷ 0 ∷ []) ≡ 1 ∷ 0 ∷ []
unfolding without_directory
with_entries = refl
