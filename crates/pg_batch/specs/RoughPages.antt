-- A rougher bound on the pages that a batch may put and change, by the sizes of the entries alone: 512 for each change, and one for every
-- 1,024 bytes of an entry, where the last of them count as 1,024 too.
use Rattle.std.specs.Prelude.{◌≡◌, ℕ, ◌+◌, ◌/◌, List, [], ◌∷◌, length, Option, Some, None, codes, refl}
use Rattle.std.proofs.Common.{ap}
use Rattle.std.specs.FinMap.{get}
use Rattle.ct_keep.specs.Content.{Content, Change, set_to}

-- how many runs of 1,024 bytes are begun by an entry's key and value; none where there is no entry
abbrev pub started : List ℕ → Option (List ℕ) → ℕ
started key None = 0
started key (Some value) = (length key + length value + 1023) / 1024

-- the sum over the changes: 512, and the runs of the entry that it finds and of the one that it puts
abbrev pub rough_pages : List Change → Content → ℕ
rough_pages [] m = 0
rough_pages (w ∷ ws) m = 512 + started w.0 (get m w.0) + started w.0 w.1 + rough_pages ws (set_to w.0 w.1 m)

-- ---- computed examples: an entry of two bytes begins one run, and so does one of 1,024 bytes
two_bytes : started (codes "k") (Some (codes "v")) ≡ 1
two_bytes = refl

none_taken_away : started (codes "k") None ≡ 0
none_taken_away = refl

-- an entry of two bytes that is put where there was none
put_where_none : (m : Content) → get m (codes "k") ≡ None → rough_pages ((codes "k", Some (codes "v")) ∷ []) m ≡ 513
put_where_none m none = ap (λ (o : Option (List ℕ)). 512 + started (codes "k") o + 1 + 0) none
