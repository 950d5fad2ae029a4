-- The slots of a phrase as a search for its starts takes them.
use Rattle.std.specs.Prelude.{ℕ, ◌≡◌, ◌<◌, nat_lt, Bool, true, false, ◌&&◌, List, [], ◌∷◌, filter, Option, Some, None, length, get_or, refl}
use Rattle.ct_base.specs.declared.numbers.Pair.{Pair}
use Rattle.ix_spans.specs.Occurrences.{has_number, Slots, is_start, more_slots, pairs_from}
use Rattle.ix_spans.specs.Rising.{Rising, moved_back}

-- the positions of a slot rise strictly, where it has a list of them
abbrev pub SlotRises : Option (List ℕ) → Type 0
SlotRises None = Unit {0}
SlotRises (Some ps) = Rising ps

abbrev pub SlotsRise : Slots → Type 0
SlotsRise [] = Unit {0}
SlotsRise (s ∷ ss) = SlotRises s × SlotsRise ss

-- a slot has fewer positions than another; one that takes every position has no end of them
abbrev pub is_shorter : Option (List ℕ) → Option (List ℕ) → Bool
is_shorter None s = false
is_shorter (Some ps) None = true
is_shorter (Some ps) (Some qs) = nat_lt (length ps) (length qs)

-- a slot stands at place i, and none is shorter than it
pub record IsShortest (slots : Slots) (i : ℕ) : Type 0 where
  pub within : i < length slots
  pub least : (k : ℕ) → k < length slots → is_shorter (get_or slots k None) (get_or slots i None) ≡ false

-- whether a phrase starts at p, within lo to hi: the first slot takes p, and the others stand behind it
abbrev pub starts_at : Slots → ℕ → ℕ → ℕ → Bool
starts_at [] lo hi p = false
starts_at (None ∷ rest) lo hi p = false
starts_at (Some ps ∷ rest) lo hi p = has_number ps p && is_start rest lo hi p

-- the starts that the positions of one slot give, before which so many others are
abbrev pub slot_starts : Slots → ℕ → ℕ → ℕ → List ℕ → List ℕ
slot_starts slots before lo hi ps = filter (starts_at slots lo hi) (moved_back before ps)

-- and the occurrences that begin there
abbrev pub slot_pairs : Slots → ℕ → ℕ → ℕ → List ℕ → List Pair
slot_pairs slots before lo hi ps = pairs_from (more_slots slots) (slot_starts slots before lo hi ps)

-- computed examples: `a % b`, where a stands at 1 and 4, and b at 3
abbrev a_any_b : Slots
a_any_b = Some (1 ∷ 4 ∷ []) ∷ None ∷ Some (3 ∷ []) ∷ []

at_one : starts_at a_any_b 1 9 1 ≡ true
at_one = refl

not_at_four : starts_at a_any_b 1 9 4 ≡ false
not_at_four = refl

by_the_last_slot : slot_starts a_any_b 2 1 9 (3 ∷ []) ≡ 1 ∷ []
by_the_last_slot = refl

b_is_shorter : is_shorter (Some (3 ∷ [])) (Some (1 ∷ 4 ∷ [])) ≡ true
b_is_shorter = refl
