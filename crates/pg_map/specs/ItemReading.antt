-- What is found where a string of a slotted page is read as an entry.
use Rattle.std.specs.Prelude.{◌≡◌, ℕ, ◌+◌, ◌≤◌, List, ◌∷◌, length, Option, None, Some, codes, refl}
use Rattle.std.proofs.Common.{arith}
use Rattle.pg_page.specs.Pages.{number_at}
use Rattle.pg_map.specs.declared.item_reading.Form.{Form}
use Rattle.pg_map.specs.declared.item_reading.Form.TheVariants.{Short as ShortForm, Far as FarForm}
use Rattle.pg_map.specs.Kinds.{StringItem, Short, Far, item_bytes, IsStringItem}

-- the item that was read
abbrev pub item_in : Form → StringItem
item_in (ShortForm key value) = Short key.items value.items
item_in (FarForm key count first) = Far key.items count first

-- the item that this string spells, if it spells one
abbrev pub IsItemOr : Option StringItem → List ℕ → Type 0
IsItemOr (Some item) string = IsStringItem item × (item_bytes item ≡ string)
IsItemOr None string = (item : StringItem) → IsStringItem item → item_bytes item ≡ string → ⊥

-- how many bytes its key has, if they may stand there
abbrev pub IsKeyCountOr : Option ℕ → List ℕ → Type 0
IsKeyCountOr (Some count) string = (count ≡ number_at string 1) × (3 + count ≤ length string)
IsKeyCountOr None string = (item : StringItem) → IsStringItem item → item_bytes item ≡ string → ⊥

-- ---- computed example
a_short_one : IsItemOr (Some (Short (codes "k") (codes "vw"))) (0 ∷ 0 ∷ 1 ∷ codes "kvw")
a_short_one = ((omega arith, omega arith), refl)
