-- What the steps of a plan make of pages in memory.
use Rattle.std.specs.Prelude.{◌≡◌, ◌≢◌, ◌⊎◌, ℕ, ◌+◌, ◌-◌, ◌^◌, ◌≤◌, ◌<◌, List, [], ◌∷◌, ◌++◌, length, get_or, set, Option, Some}
use Rattle.ct_keep.specs.Content.{Content}
use Rattle.pg_page.specs.Pages.{Fits}
use Rattle.pg_map.specs.Kinds.{Kind, Free, Slotted, Long, strings_of, StringItem, Short, item_bytes, IsStringItem}
use Rattle.pg_map.specs.Holding.{one_if_long}
use Rattle.pg_map.specs.Done.{IsPlanned}
use Rattle.pg_map.specs.Kinds.{key_in_item, page_of, count_of}
use Rattle.pg_map.specs.PageStrings.{IsKeyAt}
use Rattle.pg_plan.specs.Slots.{without_at}
use Rattle.std.proofs.Common.{inr, refl, arith}

-- The same pages, or one free page more.
abbrev pub IsRoomier : List Kind → List Kind → Type 0
IsRoomier old new = (new ≡ old) ⊎ ((new ≡ old ++ Free ∷ []) × (4 + length old ≤ 2 ^ 31))

-- There is a free page at this place, after one more was made where there was none.
pub record HasFree (old new : List Kind) (at : ℕ) : Type 0 where
  pub roomier : IsRoomier old new
  pub within : at < length new
  pub free : get_or new at Free ≡ Free

-- A string was put on a page, after the others: on the page that was tried, on a free one, or on a new one.
pub record IsPut (old new : List Kind) (string : List ℕ) (at : ℕ) : Type 0 where
  pub base : List Kind
  pub strings : List (List ℕ)
  pub roomier : IsRoomier old base
  pub within : at < length base
  pub was : strings_of (get_or base at Free ∷ []) ≡ strings
  pub short : one_if_long (get_or base at Free) ≡ 0
  pub fits : Fits (strings ++ string ∷ [])
  pub now : new ≡ set base at (Slotted (strings ++ string ∷ []))

-- Beside the map there is a chain with this value.
pub record HasChain (kinds : List Kind) (m : Content) (first : ℕ) (value : List ℕ) : Type 0 where
  pub loose : List ℕ
  pub is : IsPlanned kinds m first loose value

-- Page `page` is a long one that names the next page, and has so many bytes.
pub record IsLongAt (kinds : List Kind) (page next used : ℕ) : Type 0 where
  pub low : 3 ≤ page
  pub within : page - 3 < length kinds
  pub bytes : List ℕ
  pub kind : get_or kinds (page - 3) Free ≡ Long next bytes
  pub used_is : used ≡ length bytes
  pub some : 1 ≤ used

-- The page at this place has room for the string behind its others.
pub record HasRoom (kinds : List Kind) (at : ℕ) (string : List ℕ) (page : List (List ℕ)) : Type 0 where
  pub within : at < length kinds
  pub strings : List (List ℕ)
  pub was : strings_of (get_or kinds at Free ∷ []) ≡ strings
  pub short : one_if_long (get_or kinds at Free) ≡ 0
  pub is : page ≡ strings ++ string ∷ []
  pub fits : Fits page

-- The page at this place has a string of the key, and these strings beside it; the entry's long pages begin at `first` and have so many bytes.
pub record IsTaking (kinds : List Kind) (at : ℕ) (key : List ℕ) (rest : List (List ℕ)) (first count : ℕ) : Type 0 where
  pub within : at < length kinds
  pub strings : List (List ℕ)
  pub kind : get_or kinds at Free ≡ Slotted strings
  pub number : ℕ
  pub key_is : IsKeyAt strings number key
  pub rest_is : rest ≡ without_at number strings
  pub fits : Fits strings
  pub far : (item : StringItem) → IsStringItem item → get_or strings number [] ≡ item_bytes item → (first ≡ page_of item) × (count ≡ count_of item)

-- The page at this place has a string of the key, of an entry that has no long pages; with another string in its slot it is this one.
pub record IsReplacing (kinds : List Kind) (at : ℕ) (key string : List ℕ) (page : List (List ℕ)) : Type 0 where
  pub within : at < length kinds
  pub strings : List (List ℕ)
  pub kind : get_or kinds at Free ≡ Slotted strings
  pub number : ℕ
  pub key_is : IsKeyAt strings number key
  pub page_is : page ≡ set strings number string
  pub was : Fits strings
  pub fits : Fits page
  pub near : (item : StringItem) → IsStringItem item → get_or strings number [] ≡ item_bytes item → count_of item ≡ 0

-- The value is there, and short; the page at this place has a string of the key, and with the new entry's in its slot it is this one.
pub record KeepsSlot (kinds : List Kind) (at : ℕ) (key : List ℕ) (value : Option (List ℕ)) (page : List (List ℕ)) : Type 0 where
  pub bytes : List ℕ
  pub some : value ≡ Some bytes
  pub short : 3 + length key + length bytes ≤ 4084
  pub is : IsReplacing kinds at key (item_bytes (Short key bytes)) page

-- The page at this place has no string of an entry of the key.
pub record HasNone (kinds : List Kind) (at : ℕ) (key : List ℕ) : Type 0 where
  pub none : (strings : List (List ℕ)) (i : ℕ) (item : StringItem) → get_or kinds at Free ≡ Slotted strings → i < length strings → IsStringItem item → get_or strings i [] ≡ item_bytes item → key_in_item item ≢ key

-- ---- example: where there are no pages a free one is made
a_first_page : HasFree [] (Free ∷ []) 0
a_first_page = record { roomier = inr (refl, omega arith); within = omega arith; free = refl }
