-- How many pages a batch may add and change: the bounds on what a commit adds to the file, and on how long the file then is.
use Rattle.std.specs.Prelude.{◌≡◌, ℕ, ◌+◌, ◌*◌, ◌/◌, nat_lt, if◌then◌else◌, List, [], ◌∷◌, length, max, Option, Some, None, codes, refl}
use Rattle.std.specs.FinMap.{get}
use Rattle.ct_keep.specs.Content.{Content, Change, set_to}
use Rattle.pg_journal.specs.Recovered.{number_pages}

-- how many long pages so many bytes take
abbrev pub long_pages : ℕ → ℕ
long_pages n = (n + 4087) / 4088

-- The pages that an entry is on: the one with its string, and its value's long ones where key and value don't fit into a string. None
-- where there is no entry.
abbrev pub entry_pages : List ℕ → Option (List ℕ) → ℕ
entry_pages key None = 0
entry_pages key (Some value) = 1 + (if nat_lt 4084 (3 + length key + length value) then long_pages (length value) else 0)

-- how many pages a batch may need: those of the entries that it puts
abbrev pub put_pages : List Change → ℕ
put_pages [] = 0
put_pages (w ∷ ws) = entry_pages w.0 w.1 + put_pages ws

-- How many home pages are enough, where there are so many, some of those behind the root are used, and some are put: those that there
-- are, or, where the free ones aren't enough, the used ones and those that are put.
abbrev pub homes_needed : ℕ → ℕ → ℕ → ℕ
homes_needed homes used put = max homes (3 + used + put)

-- how many pages a batch may change: those of each entry that a change finds in the content, and of the one that it puts
abbrev pub changed_pages : List Change → Content → ℕ
changed_pages [] m = 0
changed_pages (w ∷ ws) m = entry_pages w.0 (get m w.0) + entry_pages w.0 w.1 + changed_pages ws (set_to w.0 w.1 m)

-- where a commit ends that leaves so many home pages and changes so many pages beside the root: behind the home pages stand the pages
-- of numbers, and the changed ones
abbrev pub batch_end : ℕ → ℕ → ℕ
batch_end homes changed = 4096 * (homes + number_pages (1 + changed) + (1 + changed))

-- ---- computed examples: of ten home pages four are used and three are free; three are put on these, and two more at the end
three_on_free_pages : homes_needed 10 4 3 ≡ 10
three_on_free_pages = refl

two_at_the_end : homes_needed 10 4 5 ≡ 12
two_at_the_end = refl

-- an entry of two bytes is on one page; a commit of it over a new store ends behind page 7 (the gate and the two
-- others, its own, the numbers, the root and itself)
a_short_one : entry_pages (codes "k") (Some (codes "v")) ≡ 1
a_short_one = refl

none_there : entry_pages (codes "k") None ≡ 0
none_there = refl

end_of_a_short_one : batch_end 4 1 ≡ 4096 * 7
end_of_a_short_one = refl
