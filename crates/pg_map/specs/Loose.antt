-- What pages hold while a batch is planned, one page at a time: a layout, and beside it one chain of long pages that no entry has.
use Rattle.std.specs.Bool.{if◌then◌else◌}
use Rattle.std.proofs.Common.{◌≤◌, ◌≡◌, ℕ, ◌+◌, List, [], ◌∷◌, Option, Some, None}
use Rattle.std.specs.FinMap.{get}
use Rattle.ct_keep.specs.Content.{Content}
use Rattle.ct_keep.specs.laws.Content.{same}
use Rattle.pg_map.specs.Kinds.{Each, Kind, strings_of, IsStringItem, Entry}
use Rattle.pg_map.specs.Holding.{kind_of_page, IsChain, Placed, StandsFor, times, one_if_long, chains_of, bytes_of, entries_of}
use Rattle.std.specs.Prelude.{codes, refl}

abbrev pub values_under : List ℕ → List Entry → List (List ℕ)
values_under key [] = []
values_under key (e ∷ es) = if same key e.0 then e.1 ∷ values_under key es else values_under key es

abbrev pub held : Option (List ℕ) → List (List ℕ)
held None = []
held (Some value) = value ∷ []

-- Each key has among the entries the value that it has in the map, once, or none.
pub record AreValues (es : List Entry) (m : Content) : Type 0 where
  pub are : (key : List ℕ) → values_under key es ≡ held (get m key)

abbrev pub Stand : List Kind → List Placed → Type 0
Stand ks ps = Each (λ (p : Placed). StandsFor ks p.item p.entry p.chain) ps

-- The pages hold the map, and beside it a chain of long pages that belongs to no entry: first, its pages, and the bytes on them.
pub record IsLoose (kinds : List Kind) (m : Content) (first : ℕ) (loose value : List ℕ) : Type 0 where
  pub placed : List Placed
  pub strings : strings_of kinds ≡ bytes_of placed
  pub items : Each (λ (p : Placed). IsStringItem p.item) placed
  pub stand : Stand kinds placed
  pub chain : IsChain kinds first loose value
  pub long : (i : ℕ) → 3 ≤ i → times i (chains_of placed) + times i loose ≡ one_if_long (kind_of_page kinds i)
  pub values : AreValues (entries_of placed) m

-- ---- computed example
of_one_key : values_under (codes "k") ((codes "k", codes "v") ∷ (codes "l", codes "w") ∷ []) ≡ codes "v" ∷ []
of_one_key = refl
