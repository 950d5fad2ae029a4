-- What a first pass keeps of the pages of a store, and when there are no such pages.
use Rattle.std.specs.Prelude.{◌≡◌, ℕ, Bool, true, false, List, [], ◌∷◌, ◌++◌, map, flat_map, codes, Option, None, Some, refl}
use Rattle.pg_journal.specs.Pages.{page, pages_from}
use Rattle.pg_map.specs.Kinds.{Each, strings_of, StringItem, Short, Far, item_bytes, IsStringItem}
use Rattle.pg_directory.specs.declared.passing.FarValue.{FarValue}
use Rattle.pg_directory.specs.declared.passing.FirstPass.{FirstPass as Pass}
use Rattle.pg_directory.specs.declared.noting.PageNote.{PageNote}
use Rattle.pg_directory.specs.Noting.{note_of}
use Rattle.pg_directory.specs.Trees.{StorePage, bytes_of_page, kind_of, IsPage}

-- the first page of a value, and how many bytes it has
abbrev pub FarPlace : Type 0
FarPlace = ℕ × ℕ

abbrev pub far_of : FarValue → FarPlace
far_of v = (v.first, v.count)

-- where the value of an item stands, if that is on long pages
abbrev pub far_in : StringItem → List FarPlace
far_in (Short key value) = []
far_in (Far key count first) = (first, count) ∷ []

abbrev pub far_values : List StringItem → List FarPlace
far_values items = flat_map far_in items

abbrev pub items_bytes : List StringItem → List (List ℕ)
items_bytes items = map item_bytes items

-- Exactly where it is true, the string is an item's; its value is listed, if that stands on long pages.
abbrev pub TakesString : Bool → List ℕ → List FarPlace → List FarPlace → Type 0
TakesString true string old new = (item : StringItem) × IsStringItem item × (item_bytes item ≡ string) × (new ≡ old ++ far_in item)
TakesString false string old new = (item : StringItem) → IsStringItem item → item_bytes item ≡ string → ⊥

-- The strings are these items'.
pub record AreItems (strings : List (List ℕ)) (items : List StringItem) : Type 0 where
  pub are : strings ≡ items_bytes items
  pub good : Each IsStringItem items

-- the same of some strings
abbrev pub TakesStrings : Bool → List (List ℕ) → List FarPlace → List FarPlace → Type 0
TakesStrings true strings old new = (items : List StringItem) × AreItems strings items × (new ≡ old ++ far_values items)
TakesStrings false strings old new = (items : List StringItem) → AreItems strings items → ⊥

-- the strings of a page
abbrev pub strings_on : StorePage → List (List ℕ)
strings_on p = strings_of (kind_of p ∷ [])

-- the page of these bytes, each string of which is an item's, if there is one
abbrev pub ReadsFirst : Option PageNote → List ℕ → List FarPlace → List FarPlace → Type 0
ReadsFirst (Some note) bytes old new =
    (p : StorePage) × IsPage p × (bytes ≡ bytes_of_page p) × (note ≡ note_of p) × (items : List StringItem) × AreItems (strings_on p) items × (new ≡ old ++ far_values items)
ReadsFirst None bytes old new = (p : StorePage) (items : List StringItem) → IsPage p → bytes ≡ bytes_of_page p → AreItems (strings_on p) items → ⊥

-- The n pages of the image from page 3 on are these, with these items on them.
pub record AreStorePages (image : List ℕ) (n : ℕ) (pages : List StorePage) (items : List StringItem) : Type 0 where
  pub are : Each IsPage pages
  pub is : map bytes_of_page pages ≡ pages_from (page image) 3 n
  pub strings : AreItems (strings_of (map kind_of pages)) items

-- what was kept of the pages of an image, if there are such pages
abbrev pub IsFirstPassOr : Option Pass → List ℕ → ℕ → Type 0
IsFirstPassOr (Some pass) image n =
    (pages : List StorePage) × (items : List StringItem) × AreStorePages image n pages items × (pass.notes.items ≡ map note_of pages) × (map far_of pass.far.items ≡ far_values items)
IsFirstPassOr None image n = (pages : List StorePage) (items : List StringItem) → AreStorePages image n pages items → ⊥

-- ---- computed example: of two entries the value of one stands on long pages
one_far : far_values (Short (codes "k") (codes "v") ∷ Far (codes "l") 5000 9 ∷ []) ≡ (9, 5000) ∷ []
one_far = refl
