-- What a page behind the root is, and the strings of slotted pages.
use Rattle.std.specs.Prelude.{◌≡◌, ◌≢◌, ℕ, ◌+◌, ◌-◌, ◌^◌, ◌≤◌, ◌<◌, List, [], ◌∷◌, ◌++◌, length, codes, refl}
use Rattle.std.specs.Int.{to_be_bytes, w16, w32}
use Rattle.ct_base.specs.Zeros.{zeros}
use Rattle.pg_page.specs.Pages.{Fits, page_bytes}

-- an entry: its key and its value
abbrev pub Entry : Type 0
Entry = List ℕ × List ℕ

pub data Kind : Type 0 where
  Free : Kind
  -- the strings of a slotted page
  Slotted : List (List ℕ) → Kind
  -- the next page of a long value, or 0, and the bytes that it has of the value
  Long : ℕ → List ℕ → Kind

unfoldable pub bytes_of_kind : Kind → List ℕ
bytes_of_kind Free = zeros 4096
bytes_of_kind (Slotted ss) = page_bytes ss
bytes_of_kind (Long next bytes) = 2 ∷ (to_be_bytes w32 next ++ (to_be_bytes w16 (length bytes) ++ 0 ∷ (bytes ++ zeros (4088 - length bytes))))

abbrev pub IsKind : Kind → Type 0
IsKind Free = Unit {0}
IsKind (Slotted ss) = Fits ss
IsKind (Long next bytes) = (next < 2 ^ 32) × (1 ≤ length bytes) × (length bytes ≤ 4088) × (next ≢ 0 → length bytes ≡ 4088)

-- the strings of all pages, in order
abbrev pub strings_of : List Kind → List (List ℕ)
strings_of [] = []
strings_of (Free ∷ ks) = strings_of ks
strings_of (Slotted ss ∷ ks) = ss ++ strings_of ks
strings_of (Long next bytes ∷ ks) = strings_of ks

-- each element has P
abbrev pub Each : {X : Type 0} → (X → Type 0) → List X → Type 0
Each P [] = Unit {0}
Each P (x ∷ xs) = P x × Each P xs

-- ---- a string as an entry

pub data StringItem : Type 0 where
  -- a key and its value
  Short : List ℕ → List ℕ → StringItem
  -- a key, how long its value is, and the first long page of the value
  Far : List ℕ → ℕ → ℕ → StringItem

abbrev pub item_bytes : StringItem → List ℕ
item_bytes (Short key value) = 0 ∷ (to_be_bytes w16 (length key) ++ (key ++ value))
item_bytes (Far key count first) = 1 ∷ (to_be_bytes w16 (length key) ++ (key ++ (to_be_bytes w32 count ++ to_be_bytes w32 first)))

-- The first form is used exactly where it has at most 4084 bytes.
abbrev pub IsStringItem : StringItem → Type 0
IsStringItem (Short key value) = (length key < 2 ^ 16) × (3 + length key + length value ≤ 4084)
IsStringItem (Far key count first) = (length key < 2 ^ 16) × (count < 2 ^ 32) × (first < 2 ^ 32) × (4084 < 3 + length key + count)

abbrev pub key_in_item : StringItem → List ℕ
key_in_item (Short key value) = key
key_in_item (Far key count first) = key

-- the first long page of an item's value, or 0
abbrev pub page_of : StringItem → ℕ
page_of (Short key value) = 0
page_of (Far key count first) = first

-- how many bytes a value has on long pages
abbrev pub count_of : StringItem → ℕ
count_of (Short key value) = 0
count_of (Far key count first) = count

-- ---- computed example
a_short_entry : item_bytes (Short (codes "k") (codes "vw")) ≡ 0 ∷ 0 ∷ 1 ∷ codes "kvw"
a_short_entry = refl
