-- The bytes under which a slot is noted. They are only there to find it: slots that aren't the same may have the same bytes.
use Rattle.std.specs.Prelude.{ℕ, ◌≡◌, List, [], ◌∷◌, ◌++◌, codes, refl}
use Rattle.q_tree.specs.declared.flats.PatternBit.{PatternBit}
use Rattle.q_tree.specs.declared.flats.PatternBit.TheVariants.{Chars, One, Many}
use Rattle.q_tree.specs.declared.flats.Slot.{Slot}
use Rattle.q_tree.specs.declared.flats.Slot.TheVariants.{Any, Takes}

abbrev pub bit_bytes : PatternBit → List ℕ
bit_bytes (Chars text) = text
bit_bytes One = 95 ∷ []
bit_bytes Many = 37 ∷ []

abbrev pub bits_bytes : List PatternBit → List ℕ
bits_bytes [] = []
bits_bytes (bit ∷ bits) = bit_bytes bit ++ bits_bytes bits

-- with a space behind each
abbrev pub patterns_bytes : List (List PatternBit) → List ℕ
patterns_bytes [] = []
patterns_bytes (pattern ∷ patterns) = bits_bytes pattern ++ 32 ∷ patterns_bytes patterns

abbrev pub keys_bytes : List (List ℕ) → List ℕ
keys_bytes [] = []
keys_bytes (key ∷ keys) = key ++ 32 ∷ keys_bytes keys

-- THE BYTES OF A SLOT: its stream, its keys, and its patterns
abbrev pub slot_bytes : ℕ → Slot → List ℕ
slot_bytes stream Any = stream ∷ []
slot_bytes stream (Takes keys patterns) = stream ∷ keys_bytes keys ++ patterns_bytes patterns

-- computed example: `shop = web` and `caf%` in the field 1
two_keys : slot_bytes 1 (Takes (codes "shop" ∷ codes "web" ∷ []) ((Chars (codes "caf") ∷ Many ∷ []) ∷ [])) ≡ 1 ∷ codes "shop web caf% "
two_keys = refl
