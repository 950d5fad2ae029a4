-- A store that was opened holds its map.
use Rattle.std.proofs.Common.{◌≡◌, ◌⊎◌, inl, inr, ℕ, zero, suc, ◌≤◌, List, arith}
use Rattle.pg_directory.specs.declared.entries.Child.{Child}
use Rattle.pg_directory.specs.declared.entries.EntryAt.{EntryAt}
use Rattle.pg_directory.specs.declared.stores.OpenStore.{OpenStore}
use Rattle.pg_directory.specs.Holding.{HoldsMap, HasTop}
use Rattle.pg_directory.specs.OpenStore.{ArePlaces, NameAll, IsUndirected, IsDirected, IsOpenOn, IsStoreOf}
use Rattle.pg_directory.specs.Trees.{StorePage, IsTree, IsDirectory, HasNoDirectory}
use Rattle.pg_directory.specs.Levels.{HasLevels}
use Rattle.pg_directory.specs.laws.Levels.{directory_of_levels}
use Rattle.pg_directory.specs.laws.Places.{as_many_entries}

tree_low : (pages : List StorePage) (level top : ℕ) (numbers : List ℕ) (es : List EntryAt) → IsTree pages level top numbers es → 3 ≤ top
tree_low pages zero top numbers es tree = tree.0
tree_low pages (suc level) top numbers es tree = tree.0

-- The page at the top of a directory stands behind the root.
pub directory_low : (pages : List StorePage) (top : ℕ) (es : List EntryAt) → IsDirectory pages top es → 3 ≤ top
directory_low pages top es dir = tree_low pages dir.level top dir.numbers es dir.tree

pub open_holds : (o : OpenStore) (store : List (List ℕ)) (s : IsStoreOf o store) → HoldsMap store s.opened.held
open_holds o store s = record {
  pages = s.behind;
  top = o.top;
  are = s.are;
  small = s.small;
  is = s.is;
  layout = s.opened.layout;
  directory = of s.opened.directory;
}
  where
    of : IsUndirected o s.behind ⊎ IsDirected o s.behind → HasNoDirectory s.behind o.top ⊎ HasTop s.behind o.top
    of (inl none) = inl none.none
    of (inr dir) =
        let is = directory_of_levels s.behind o.top o.directory.inner.items o.directory.leaves.items dir.entries dir.levels in
        let low = directory_low s.behind o.top dir.entries is in
        inr (record { some = omega (arith, low); entries = dir.entries; is = is })

-- ---- the places of all entries

-- those of a store without a directory are kept
pub places_kept : (o : OpenStore) (pages : List StorePage) → IsOpenOn o pages o.top → o.top ≡ 0 → ArePlaces pages o.places.items
places_kept o pages opened none = of opened.directory
  where
    of : IsUndirected o pages ⊎ IsDirected o pages → ArePlaces pages o.places.items
    of (inl u) = u.places
    of (inr d) =
        let low = directory_low pages o.top d.entries (directory_of_levels pages o.top o.directory.inner.items o.directory.leaves.items d.entries d.levels) in
        absurd (omega (arith, low, none))

-- the leaves of a directory name them
pub levels_name : (pages : List StorePage) (top : ℕ) (inner : List ℕ) (leaves : List Child) (es : List EntryAt) → HasLevels pages top inner leaves es → NameAll pages leaves
levels_name pages top inner leaves es h = record {
  entries = es;
  are = h.are;
  there = record { strings = h.strings; order = h.order; all = let e = as_many_entries pages top inner leaves es h in omega (arith, e) };
}

pub leaves_name : (o : OpenStore) (pages : List StorePage) → IsOpenOn o pages o.top → (o.top ≡ 0 → ⊥) → NameAll pages o.directory.leaves.items
leaves_name o pages opened some = of opened.directory
  where
    of : IsUndirected o pages ⊎ IsDirected o pages → NameAll pages o.directory.leaves.items
    of (inl u) = absurd (some u.none.none)
    of (inr d) = levels_name pages o.top o.directory.inner.items o.directory.leaves.items d.entries d.levels
