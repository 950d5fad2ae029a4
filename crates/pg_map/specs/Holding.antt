-- Which map the pages of a store hold.
use Rattle.std.specs.Prelude.{◌≡◌, ◌≢◌, ℕ, ◌+◌, ◌-◌, ◌≤◌, ◌==◌, List, [], ◌∷◌, ◌++◌, length, map, get_or, Option, Some, None, flat_map, codes, refl}
use Rattle.std.specs.List.{Contains, AllPairs}
use Rattle.std.specs.Bool.{if◌then◌else◌}
use Rattle.std.specs.FinMap.{get}
use Rattle.ct_keep.specs.Content.{Content}
use Rattle.pg_journal.specs.Pages.{root_page}
use Rattle.pg_journal.specs.Recovered.{IsRecovered}
use Rattle.pg_map.specs.Kinds.{Each, Kind, Free, Slotted, Long, bytes_of_kind, IsKind, strings_of, StringItem, Short, Far, item_bytes, IsStringItem, Entry}
use Rattle.std.proofs.Common.{arith}

-- the kind of the page of a number, of those behind the root
abbrev pub kind_of_page : List Kind → ℕ → Kind
kind_of_page kinds i = get_or kinds (i - 3) Free

-- These long pages have the value, each naming the next one; the last one names 0.
abbrev pub IsChain : List Kind → ℕ → List ℕ → List ℕ → Type 0
IsChain kinds first [] value = (first ≡ 0) × (value ≡ [])
IsChain kinds first (i ∷ is) value = (i ≡ first) × (3 ≤ i) × (next : ℕ) × (bytes : List ℕ) × (rest : List ℕ) × (kind_of_page kinds i ≡ Long next bytes) × (value ≡ bytes ++ rest) × IsChain kinds next is rest

-- An item with the entry that it stands for and the long pages of the value.
pub record Placed : Type 0 where
  pub item : StringItem
  pub entry : Entry
  pub chain : List ℕ

abbrev pub StandsFor : List Kind → StringItem → Entry → List ℕ → Type 0
StandsFor kinds (Short key value) entry chain = (entry ≡ (key, value)) × (chain ≡ [])
StandsFor kinds (Far key count first) entry chain = (entry.0 ≡ key) × (length entry.1 ≡ count) × IsChain kinds first chain entry.1

abbrev pub times : ℕ → List ℕ → ℕ
times i [] = 0
times i (k ∷ ks) = if k == i then 1 + times i ks else times i ks

abbrev pub one_if_long : Kind → ℕ
one_if_long Free = 0
one_if_long (Slotted ss) = 0
one_if_long (Long next bytes) = 1

-- A map has these entries, no two of one key, and no other.
pub record AreEntries (es : List Entry) (m : Content) : Type 0 where
  pub each : (e : Entry) → Contains es e → get m e.0 ≡ Some e.1
  pub all : (key value : List ℕ) → get m key ≡ Some value → Contains es (key, value)
  pub apart : AllPairs (λ (a b : Entry). a.0 ≢ b.0) es

-- The pages hold the map.
pub record IsLayout (kinds : List Kind) (m : Content) : Type 0 where
  pub placed : List Placed
  pub strings : strings_of kinds ≡ map (λ p. item_bytes p.item) placed
  pub items : Each (λ p. IsStringItem p.item) placed
  pub stand : Each (λ p. StandsFor kinds p.item p.entry p.chain) placed
  -- each long page stands in exactly one long entry
  pub long : (i : ℕ) → 3 ≤ i → times i (flat_map (λ p. p.chain) placed) ≡ one_if_long (kind_of_page kinds i)
  pub entries : AreEntries (map (λ p. p.entry) placed) m

-- A root and pages of these kinds, without a directory.
pub record Holds (pages : List (List ℕ)) (m : Content) : Type 0 where
  pub kinds : List Kind
  pub are : Each IsKind kinds
  pub is : pages ≡ root_page (3 + length kinds) 0 ∷ map bytes_of_kind kinds
  pub layout : IsLayout kinds m

-- ---- recovery

-- the map that an image recovers to, or nothing
abbrev pub Recovers : List ℕ → Option Content → Type 0
Recovers image (Some m) = (pages : List (List ℕ)) × IsRecovered image pages × Holds pages m
Recovers image None = (m : Content) (pages : List (List ℕ)) → IsRecovered image pages → Holds pages m → ⊥

abbrev pub chains_of : List Placed → List ℕ
chains_of ps = flat_map (λ (p : Placed). p.chain) ps

abbrev pub bytes_of : List Placed → List (List ℕ)
bytes_of ps = map (λ (p : Placed). item_bytes p.item) ps

abbrev pub entries_of : List Placed → List Entry
entries_of ps = map (λ (p : Placed). p.entry) ps

-- ---- computed examples: a value of one byte on page 3, the only page behind the root
on_one_page : IsChain (Long 0 (codes "v") ∷ []) 3 (3 ∷ []) (codes "v")
on_one_page = (refl, omega arith, 0, codes "v", [], refl, refl, (refl, refl))

twice_in_three : times 3 (3 ∷ 4 ∷ 3 ∷ []) ≡ 2
twice_in_three = refl
