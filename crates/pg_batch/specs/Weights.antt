-- What the entries weigh that some changes replace.
use Rattle.std.specs.Prelude.{◌≡◌, ℕ, ◌+◌, List, [], ◌∷◌, Some, None, codes, map, Option, refl}
use Rattle.std.proofs.Common.{ap, arith}
use Rattle.std.specs.FinMap.{get, from_sorted, get-from_sorted}
use Rattle.std.specs.Ordering.{nat_cmp}
use Rattle.std.specs.Cmp.Lexicographic.{slice_cmp}
use Rattle.ct_keep.specs.Content.{Content, Change, value_weight}
use Rattle.pg_map.specs.Holding.{IsLayout}
use Rattle.pg_directory.specs.declared.entries.EntryAt.{EntryAt}
use Rattle.pg_directory.specs.Trees.{StorePage, kind_of}
use Rattle.pg_batch.specs.Places.{IsKeyPlace, AreKeyPlaces}

-- what the entries of a content weigh together that have the keys of some changes
abbrev pub old_weight : List Change → Content → ℕ
old_weight [] m = 0
old_weight (w ∷ ws) m = value_weight w.0 (get m w.0) + old_weight ws m

-- the weight is that of the entry at the place of a key, on the pages of a store; nothing where the key has none
abbrev pub WeighsOne : ℕ → List StorePage → Option EntryAt → Type 0
WeighsOne weight pages o = (m : Content) (key : List ℕ) → IsLayout (map kind_of pages) m → IsKeyPlace pages key o → weight ≡ value_weight key (get m key)

-- the total is what the entries weigh that stand at the places of some keys, on the pages of a store
abbrev pub WeighsOld : ℕ → List StorePage → List (Option EntryAt) → Type 0
WeighsOld total pages os = (m : Content) (ws : List Change) → IsLayout (map kind_of pages) m → AreKeyPlaces pages ws os → total ≡ old_weight ws m

-- ---- computed examples: no change replaces nothing; of two keys one has an entry
nothing_replaced : (m : Content) → old_weight [] m ≡ 0
nothing_replaced m = refl

abbrev one_entry : List (List ℕ × List ℕ)
one_entry = (codes "a", codes "1") ∷ []

one_replaced : old_weight ((codes "a", None) ∷ (codes "b", Some (codes "2")) ∷ []) (from_sorted one_entry) ≡ 64
one_replaced =
    let first = ap (value_weight (codes "a")) (get-from_sorted (slice_cmp nat_cmp) one_entry (codes "a") tt) in
    let second = ap (value_weight (codes "b")) (get-from_sorted (slice_cmp nat_cmp) one_entry (codes "b") tt) in
    omega (arith, first, second)
