-- A slot is wanted in a stream where an item of it is found.
use Rattle.std.proofs.Common.{ℕ, ◌≡◌, Bool, true, false, cond, List, [], ◌∷◌, Option, Some, None, refl, sym, ap, ◌∙◌}
use Rattle.std.specs.Prelude.{is_some, ◌||◌}
use Rattle.std.specs.Option.{option_map}
use Rattle.q_tree.specs.declared.flats.Slot.{Slot}
use Rattle.ix_slots.specs.SlotLists.{StreamSlot, is_slot_in, first_in}
use Rattle.ix_search.specs.declared.wanting.Wanted.{Wanted}
use Rattle.ix_search.specs.Wanting.{is_wanted}

abbrev wanted_at : Wanted → StreamSlot
wanted_at w = record { stream = w.stream; slot = w.slot }

is_found : (ws : List Wanted) (stream : ℕ) (slot : Slot) → is_some (first_in wanted_at stream slot ws) ≡ is_wanted ws stream slot
is_found [] stream slot = refl
is_found (w ∷ ws) stream slot = go (is_slot_in stream slot (wanted_at w)) (is_found ws stream slot)
  where
    go : (b : Bool) → is_some (first_in wanted_at stream slot ws) ≡ is_wanted ws stream slot → is_some (cond b (Some w) (first_in wanted_at stream slot ws)) ≡ (b || is_wanted ws stream slot)
    go true rest = refl
    go false rest = rest

some_seen : {B : Type 0} (f : B → Wanted) (o : Option B) → is_some (option_map f o) ≡ is_some o
some_seen f None = refl
some_seen f (Some x) = refl

pub wanted_where_found : {B : Type 0} (f : B → Wanted) (ws : List Wanted) (stream : ℕ) (slot : Slot) (found : Option B) → option_map f found ≡ first_in wanted_at stream slot ws → is_some found ≡ is_wanted ws stream slot
wanted_where_found f ws stream slot found is = sym (some_seen f found) ∙ ap is_some is ∙ is_found ws stream slot
