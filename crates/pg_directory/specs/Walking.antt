-- Entries that are looked at one after the other, in order of their keys.
use Rattle.std.specs.Prelude.{◌≡◌, ◌⊎◌, ℕ, ◌≤◌, Bool, true, false, List, [], ◌∷◌, ◌++◌, length, Option, None, Some, refl}
use Rattle.pg_map.specs.Kinds.{Each}
use Rattle.pg_directory.specs.declared.entries.EntryAt.{EntryAt}
use Rattle.pg_directory.specs.declared.entries.Child.{Child}
use Rattle.pg_directory.specs.Pages.{Leaf, directory_bytes, IsDirectoryPage}
use Rattle.pg_directory.specs.Telling.{IsTold}
use Rattle.pg_directory.specs.Trees.{StorePage, Directory, page_at, key_at, HasString, IsBelow, Rise, first_of}
use Rattle.pg_directory.specs.Levels.{AreLeaves}

-- Each of the places has an entry, their keys rise, and they are at most so many.
pub record AreInOrder (pages : List StorePage) (es : List EntryAt) (limit : ℕ) : Type 0 where
  pub strings : Each (HasString pages) es
  pub order : Rise (key_at pages) es
  pub few : length es ≤ limit

-- The last of some entries has this key.
pub record EndsWith (pages : List StorePage) (es : List EntryAt) (key : List ℕ) : Type 0 where
  pub front : List EntryAt
  pub last : EntryAt
  pub is : es ≡ front ++ last ∷ []
  pub key_is : key ≡ key_at pages last

-- These entries were looked at, so many of them, and the key of the last one is kept.
pub record IsWalked (pages : List StorePage) (es : List EntryAt) (count : ℕ) (key : List ℕ) : Type 0 where
  pub strings : Each (HasString pages) es
  pub order : Rise (key_at pages) es
  pub count_is : count ≡ length es
  pub last : (es ≡ []) ⊎ EndsWith pages es key

-- Exactly where it is true, there is an entry at the place, with a key above the one that was kept if another entry came before; its key is
-- kept then.
abbrev pub Passes : Bool → List StorePage → EntryAt → Bool → List ℕ → List ℕ → Type 0
Passes true pages at is_first old new = HasString pages at × (is_first ≡ false → IsBelow old (key_at pages at)) × (new ≡ key_at pages at)
Passes false pages at is_first old new = HasString pages at → (is_first ≡ false → IsBelow old (key_at pages at)) → ⊥

-- Exactly where it is true, the bytes are those of a leaf whose first entry is this one.
abbrev pub IsLeafOr : Bool → List ℕ → EntryAt → Type 0
IsLeafOr true page least = (own : List EntryAt) × IsTold page (Leaf own) × (first_of own ≡ Some least)
IsLeafOr false page least = (own : List EntryAt) → IsDirectoryPage (Leaf own) → page ≡ directory_bytes (Leaf own) → first_of own ≡ Some least → ⊥

-- A child is a leaf of which it names the first entry.
abbrev pub IsLeafOf : List StorePage → Child → List EntryAt → Type 0
IsLeafOf pages c own = (3 ≤ c.page) × (page_at pages c.page ≡ Directory (Leaf own)) × (first_of own ≡ Some c.least)

-- The entries of a leaf were looked at behind those before them; or it is no leaf whose entries come behind them in order.
abbrev pub WalksLeaf : Option ℕ → List StorePage → Child → List EntryAt → ℕ → List ℕ → Type 0
WalksLeaf (Some count) pages c done limit key = (own : List EntryAt) × IsLeafOf pages c own × IsWalked pages (done ++ own) count key
WalksLeaf None pages c done limit key = (own more : List EntryAt) → IsLeafOf pages c own → AreInOrder pages (done ++ (own ++ more)) limit → ⊥

-- How many entries leaves name, which are there in order; or these are no leaves of entries that are there in order, at most so many.
abbrev pub AreWalkedOr : Option ℕ → List StorePage → List Child → ℕ → Type 0
AreWalkedOr (Some count) pages leaves limit = (es : List EntryAt) × AreLeaves pages leaves es × AreInOrder pages es limit × (length es ≡ count)
AreWalkedOr None pages leaves limit = (es : List EntryAt) → AreLeaves pages leaves es → AreInOrder pages es limit → ⊥

-- ---- example: no leaves name no entries
no_leaves : (pages : List StorePage) → AreWalkedOr (Some 0) pages [] 5
no_leaves pages = ([], refl, record { strings = tt; order = tt; few = omega Rattle.std.proofs.Common.arith }, refl)
