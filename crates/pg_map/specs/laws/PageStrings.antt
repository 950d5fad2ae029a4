-- The key that the string of an item spells.
use Rattle.std.proofs.Common.{◌≡◌, ℕ, ◌++◌, length, take, refl, ap, ◌∙◌}
use Rattle.std.proofs.lemmas.List.{take_at}
use Rattle.std.specs.Int.{to_be_bytes, w32}
use Rattle.pg_map.specs.Kinds.{StringItem, Short, Far, item_bytes, IsStringItem, key_in_item}
use Rattle.pg_map.specs.PageStrings.{string_key}
use Rattle.pg_map.specs.laws.MapReading.{key_at}

pub item_key : (item : StringItem) → IsStringItem item → string_key (item_bytes item) ≡ key_in_item item
item_key (Short key value) good = ap (λ (n : ℕ). take n (key ++ value)) (key_at 0 key value good.0) ∙ take_at key value (length key) refl
item_key (Far key count first) good =
    ap (λ (n : ℕ). take n (key ++ (to_be_bytes w32 count ++ to_be_bytes w32 first))) (key_at 1 key (to_be_bytes w32 count ++ to_be_bytes w32 first) good.0) ∙ take_at key (to_be_bytes w32 count ++ to_be_bytes w32 first) (length key) refl
