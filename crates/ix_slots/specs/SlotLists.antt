-- Lists whose items are found by their slot and stream.
use Rattle.std.specs.Prelude.{ℕ, ◌≡◌, ◌+◌, eqb, Bool, ◌&&◌, bytes_eq, List, [], ◌∷◌, Option, Some, None, codes, refl}
use Rattle.std.specs.Bool.{if◌then◌else◌}
use Rattle.std.specs.List.{slice_get}
use Rattle.q_tree.specs.declared.flats.Slot.{Slot}
use Rattle.q_tree.specs.declared.flats.Slot.TheVariants.{Takes}
use Rattle.q_tree.specs.Slots.{same_slot}
use Rattle.ix_slots.specs.SlotBytes.{slot_bytes}
use Rattle.ix_slots.specs.NotedPlaces.{NotedMap, noted_under}

-- a slot in a stream
pub record StreamSlot : Type 0 where
  pub stream : ℕ
  pub slot : Slot

-- whether it is this slot in this stream
abbrev pub is_slot_in : ℕ → Slot → StreamSlot → Bool
is_slot_in stream slot p = eqb p.stream stream && same_slot p.slot slot

-- an item, if there is one, and those behind it
abbrev pub any_then : {X : Type 0} → Option X → List X → List X
any_then None xs = xs
any_then (Some x) xs = x ∷ xs

-- the items at some places
abbrev pub at_places : {X : Type 0} → List X → List ℕ → List X
at_places xs [] = []
at_places xs (i ∷ is) = any_then (slice_get xs i) (at_places xs is)

module _ {X : Type 0} (at : X → StreamSlot) where
  -- THE FIRST ITEM of a slot in a stream
  abbrev pub first_in : ℕ → Slot → List X → Option X
  first_in stream slot [] = None
  first_in stream slot (x ∷ xs) = if is_slot_in stream slot (at x) then Some x else first_in stream slot xs

  -- the places of the items whose slots have these bytes, where the first item stands at a place
  abbrev pub places_with : List ℕ → ℕ → List X → List ℕ
  places_with bytes i [] = []
  places_with bytes i (x ∷ xs) = if bytes_eq (slot_bytes (at x).stream (at x).slot) bytes then i ∷ places_with bytes (i + 1) xs else places_with bytes (i + 1) xs

  -- EACH ITEM IS NOTED under the bytes of its slot, and no other place is
  abbrev pub AreNoted : NotedMap → List X → Type 0
  AreNoted m xs = (bytes : List ℕ) → noted_under bytes m ≡ places_with bytes 0 xs

-- computed examples: `a` in the main stream, and twice in the field 1
abbrev a_slot : Slot
a_slot = Takes (codes "a" ∷ []) []

abbrev thrice : List (StreamSlot)
thrice = record { stream = 0; slot = a_slot } ∷ record { stream = 1; slot = a_slot } ∷ record { stream = 1; slot = a_slot } ∷ []

in_the_field : places_with (λ p. p) (slot_bytes 1 a_slot) 0 thrice ≡ 1 ∷ 2 ∷ []
in_the_field = refl

in_no_other_stream : first_in (λ p. p) 2 a_slot thrice ≡ None
in_no_other_stream = refl
