-- Pages of a store whose entries stand, over different long pages, which are all there are.
use Rattle.std.specs.Prelude.{◌≡◌, ℕ, ◌≤◌, Bool, true, false, List, [], map, Option, None, Some, refl, Vec}
use Rattle.std.specs.declared.alloc.Global.{Global}
use Rattle.ct_keep.specs.Content.{Content}
use Rattle.pg_journal.specs.Pages.{page, pages_from}
use Rattle.pg_map.specs.Holding.{kind_of_page, Placed, IsLayout, times, one_if_long, chains_of, bytes_of}
use Rattle.pg_map.specs.Kinds.{Each, Kind, IsStringItem, strings_of}
use Rattle.pg_map.specs.Loose.{Stand}
use Rattle.pg_directory.specs.declared.noting.PageNote.{PageNote}
use Rattle.pg_directory.specs.Noting.{note_of}
use Rattle.pg_directory.specs.Trees.{StorePage, bytes_of_page, kind_of, IsPage}

-- The strings of the pages are items that stand, and each long page is in exactly one of them.
pub record HaveEntries (kinds : List Kind) : Type 0 where
  pub placed : List Placed
  pub strings : strings_of kinds ≡ bytes_of placed
  pub items : Each (λ (p : Placed). IsStringItem p.item) placed
  pub stand : Stand kinds placed
  pub long : (i : ℕ) → 3 ≤ i → times i (chains_of placed) ≡ one_if_long (kind_of_page kinds i)

-- it is so; or no map is laid out on the pages
abbrev pub StandsOr : Bool → List Kind → Type 0
StandsOr true kinds = HaveEntries kinds
StandsOr false kinds = (m : Content) → IsLayout kinds m → ⊥

-- the n pages of the image from page 3 on
pub record ArePagesAt (image : List ℕ) (n : ℕ) (pages : List StorePage) : Type 0 where
  pub are : Each IsPage pages
  pub is : map bytes_of_page pages ≡ pages_from (page image) 3 n

-- the notes of the pages of an image, whose entries stand; or no map is laid out on such pages
abbrev pub AreOpenOr : Option (Vec PageNote Global) → List ℕ → ℕ → Type 0
AreOpenOr (Some notes) image n = (pages : List StorePage) × ArePagesAt image n pages × (notes.items ≡ map note_of pages) × HaveEntries (map kind_of pages)
AreOpenOr None image n = (pages : List StorePage) (m : Content) → ArePagesAt image n pages → IsLayout (map kind_of pages) m → ⊥

-- ---- example: no pages have no entries
of_no_pages : HaveEntries []
of_no_pages = record { placed = []; strings = refl; items = tt; stand = tt; long = λ i low. refl }
