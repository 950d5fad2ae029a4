-- The entries that a directory names, and what is found among them.
use Rattle.std.specs.Prelude.{◌≡◌, List, [], ◌∷◌, map, codes, refl}
use Rattle.ct_keep.specs.laws.Rising.{Entry}
use Rattle.pg_map.specs.Kinds.{Slotted}
use Rattle.pg_map.specs.MapReading.{entry_in, behind_root}
use Rattle.pg_directory.specs.declared.entries.EntryAt.{EntryAt}
use Rattle.pg_directory.specs.Trees.{StorePage, Plain, kind_of, string_at}

-- the entry at a place
abbrev pub entry_at : List StorePage → EntryAt → Entry
entry_at pages e = entry_in (behind_root (map kind_of pages)) (string_at pages e)

-- the entries at some places, in their order
abbrev pub entries_at : List StorePage → List EntryAt → List Entry
entries_at pages es = map (entry_at pages) es

-- ---- computed example: of a page with one string
the_only_one : entries_at (Plain (Slotted ((0 ∷ 0 ∷ 1 ∷ codes "kv") ∷ [])) ∷ []) (record { page = 3; slot = 0 } ∷ []) ≡ (codes "k", codes "v") ∷ []
unfolding entry_in
the_only_one = refl
