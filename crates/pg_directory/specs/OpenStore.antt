-- What is kept of a store that was opened, and when there is no store.
use Rattle.std.specs.Prelude.{◌≡◌, ◌⊎◌, ℕ, ◌^◌, ◌≤◌, ◌<◌, List, [], ◌∷◌, length, map, Option, None, Some}
use Rattle.ct_keep.specs.Content.{Content}
use Rattle.pg_journal.specs.Pages.{root_page}
use Rattle.pg_map.specs.Holding.{IsLayout}
use Rattle.pg_map.specs.Kinds.{Each, strings_of}
use Rattle.pg_directory.specs.declared.entries.Child.{Child}
use Rattle.pg_directory.specs.declared.entries.EntryAt.{EntryAt}
use Rattle.pg_directory.specs.declared.stores.OpenStore.{OpenStore}
use Rattle.pg_directory.specs.Holding.{HoldsMap, HasTop}
use Rattle.pg_directory.specs.Levels.{AreLeaves, HasLevels}
use Rattle.pg_directory.specs.Looking.{store_pages}
use Rattle.pg_directory.specs.Noting.{note_of}
use Rattle.pg_directory.specs.Trees.{StorePage, kind_of, key_at, HasString, HasNoDirectory, IsPage, Rise}

-- The first page of a store is a root that names this page.
abbrev pub IsTopOr : Option ℕ → ℕ → List (List ℕ) → Type 0
IsTopOr (Some top) homes store = (rest : List (List ℕ)) × (store ≡ root_page homes top ∷ rest) × (top < 2 ^ 32)
IsTopOr None homes store = ⊥

-- These are the places of all strings, in order of their keys.
pub record ArePlaces (pages : List StorePage) (places : List EntryAt) : Type 0 where
  pub strings : Each (HasString pages) places
  pub order : Rise (key_at pages) places
  pub all : length (strings_of (map kind_of pages)) ≤ length places

-- Leaves name them.
pub record NameAll (pages : List StorePage) (leaves : List Child) : Type 0 where
  pub entries : List EntryAt
  pub are : AreLeaves pages leaves entries
  pub there : ArePlaces pages entries

-- the places of the entries of a map in order, or no map is laid out on the pages
abbrev pub ArePlacesOr : Option (List EntryAt) → List StorePage → Type 0
ArePlacesOr (Some places) pages = ArePlaces pages places
ArePlacesOr None pages = (m : Content) → IsLayout (map kind_of pages) m → ⊥

-- a store without a directory, of which the places of all entries are kept
pub record IsUndirected (store : OpenStore) (pages : List StorePage) : Type 0 where
  pub none : HasNoDirectory pages store.top
  pub places : ArePlaces pages store.places.items
  pub inner : store.directory.inner.items ≡ []
  pub leaves : store.directory.leaves.items ≡ []

-- a store with one, of which the levels are kept
pub record IsDirected (store : OpenStore) (pages : List StorePage) : Type 0 where
  pub entries : List EntryAt
  pub levels : HasLevels pages store.top store.directory.inner.items store.directory.leaves.items entries

-- The pages hold a map, and have no directory or one of all entries.
pub record IsOpenOn (store : OpenStore) (pages : List StorePage) (top : ℕ) : Type 0 where
  pub held : Content
  pub layout : IsLayout (map kind_of pages) held
  pub top_is : store.top ≡ top
  pub notes : store.notes.items ≡ map note_of pages
  pub directory : IsUndirected store pages ⊎ IsDirected store pages

-- it is so, or the pages hold no map with a directory of all entries or with none
abbrev pub IsOpenOnOr : Option OpenStore → List StorePage → ℕ → Type 0
IsOpenOnOr (Some store) pages top = IsOpenOn store pages top
IsOpenOnOr None pages top = (m : Content) → IsLayout (map kind_of pages) m → HasNoDirectory pages top ⊎ HasTop pages top → ⊥

-- a store that holds a map, by its pages
pub record IsStoreOf (open_store : OpenStore) (pages : List (List ℕ)) : Type 0 where
  pub behind : List StorePage
  pub are : Each IsPage behind
  pub small : open_store.top < 2 ^ 32
  pub is : pages ≡ store_pages open_store.top behind
  pub opened : IsOpenOn open_store behind open_store.top

-- it is such a store, or the pages hold no map
abbrev pub IsStoreOr : Option OpenStore → List (List ℕ) → Type 0
IsStoreOr (Some store) pages = IsStoreOf store pages
IsStoreOr None pages = (m : Content) → HoldsMap pages m → ⊥

-- ---- computed example: no pages have no places
of_no_pages : ArePlaces [] []
of_no_pages = record { strings = tt; order = tt; all = omega Rattle.std.proofs.Common.arith }
