-- The map that pages hold, read from them with no test: a function, which tells the map wherever they hold one.
use Rattle.std.specs.Prelude.{◌==◌, flat_map, map, ◌≡◌, codes, refl}
use Rattle.std.specs.Bool.{if◌then◌else◌}
use Rattle.std.proofs.Common.{ℕ, zero, suc, ◌+◌, List, [], ◌∷◌, ◌++◌, length, take, drop, get_or, Some}
use Rattle.std.specs.FinMap.{empty}
use Rattle.ct_keep.specs.Content.{Content, Change, after}
use Rattle.pg_journal.specs.Pages.{root_page, home, number_in}
use Rattle.pg_page.specs.Pages.{strings_in, number_at}
use Rattle.pg_map.specs.Kinds.{Kind, bytes_of_kind, Entry}

abbrev pub first_byte : List ℕ → ℕ
first_byte bytes = get_or bytes 0 0

-- the value on long pages, of which there are at most so many
unfoldable pub value_in : List (List ℕ) → ℕ → ℕ → List ℕ
value_in pages zero first = []
value_in pages (suc n) zero = []
value_in pages (suc n) (suc f) = take (number_at (home pages (suc f)) 5) (drop 8 (home pages (suc f))) ++ value_in pages n (number_in (home pages (suc f)) 1)

-- the entry that a string is
unfoldable pub entry_in : List (List ℕ) → List ℕ → Entry
entry_in pages s =
    if first_byte s == 0 then (take (number_at s 1) (drop 3 s), drop (number_at s 1) (drop 3 s))
    else (take (number_at s 1) (drop 3 s), value_in pages (number_in (drop (number_at s 1) (drop 3 s)) 0) (number_in (drop (number_at s 1) (drop 3 s)) 4))

unfoldable pub strings_on : List ℕ → List (List ℕ)
strings_on page = if first_byte page == 1 then strings_in page (number_at page 2) else []

abbrev pub nothing : Content
nothing = empty

abbrev pub puts : List Entry → List Change
puts es = map (λ (e : Entry). (e.0, Some e.1)) es

unfoldable pub map_in : List (List ℕ) → Content
map_in pages = after (puts (map (entry_in pages) (flat_map strings_on pages))) nothing

-- pages behind a root that names no directory
abbrev pub behind_root : List Kind → List (List ℕ)
behind_root ks = root_page (3 + length ks) 0 ∷ map bytes_of_kind ks

-- ---- computed example: the string of a short entry
a_short_entry : entry_in [] (0 ∷ 0 ∷ 1 ∷ codes "kvw") ≡ (codes "k", codes "vw")
unfolding entry_in
a_short_entry = refl
