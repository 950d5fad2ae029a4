-- Which map the pages of a store hold that may have a directory.
use Rattle.std.specs.Prelude.{◌≡◌, ◌⊎◌, ℕ, ◌^◌, ◌≤◌, ◌<◌, List, [], map, Option, Some, None, refl}
use Rattle.std.proofs.Common.{inl}
use Rattle.ct_keep.specs.Content.{Content}
use Rattle.pg_journal.specs.Recovered.{IsRecovered, first_pages}
use Rattle.pg_map.specs.Kinds.{Each}
use Rattle.pg_map.specs.Holding.{IsLayout}
use Rattle.pg_map.specs.MapReading.{nothing}
use Rattle.pg_map.specs.laws.MapReading.{first_layout}
use Rattle.std.proofs.Common.{arith}
use Rattle.pg_directory.specs.declared.entries.EntryAt.{EntryAt}
use Rattle.pg_directory.specs.Trees.{StorePage, IsPage, kind_of, IsDirectory, HasNoDirectory}
use Rattle.pg_directory.specs.Looking.{store_pages}

-- The root names the top of a directory of all entries.
pub record HasTop (pages : List StorePage) (top : ℕ) : Type 0 where
  pub some : 1 ≤ top
  pub entries : List EntryAt
  pub is : IsDirectory pages top entries

-- The pages are a root and pages behind it. Those that are none of the directory hold the map. There is a directory of all entries, or
-- the root names none and no page is of one.
pub record HoldsMap (store : List (List ℕ)) (m : Content) : Type 0 where
  pub pages : List StorePage
  pub top : ℕ
  pub are : Each IsPage pages
  pub small : top < 2 ^ 32
  pub is : store ≡ store_pages top pages
  pub layout : IsLayout (map kind_of pages) m
  pub directory : HasNoDirectory pages top ⊎ HasTop pages top

-- the map that an image recovers to, or nothing
abbrev pub RecoversTo : List ℕ → Option Content → Type 0
RecoversTo image (Some m) = (store : List (List ℕ)) × IsRecovered image store × HoldsMap store m
RecoversTo image None = (m : Content) (store : List (List ℕ)) → IsRecovered image store → HoldsMap store m → ⊥

-- ---- computed example: a store that was just born holds nothing, without a directory
pub born_holds : HoldsMap first_pages nothing
born_holds = record {
  pages = [];
  top = 0;
  are = tt;
  small = omega arith;
  is = refl;
  layout = first_layout;
  directory = inl (record { none = refl; no = λ i low. refl });
}
