-- What was read for a slot is that of the first feed of it.
use Rattle.std.proofs.Common.{ℕ, ◌≡◌, Bool, true, false, cond, List, [], ◌∷◌, Option, Some, None, refl, sym, ap, ◌∙◌}
use Rattle.q_tree.specs.declared.flats.Slot.{Slot}
use Rattle.ix_posting.specs.Rows.{WordDocument}
use Rattle.ix_cursor.specs.declared.reading.SlotFeed.{SlotFeed}
use Rattle.ix_slots.specs.SlotLists.{StreamSlot, is_slot_in, first_in}
use Rattle.ix_cursor.specs.Reading.{tokens_read, TokensRise, SlotFeedsRise}

abbrev feed_at : SlotFeed → StreamSlot
feed_at f = record { stream = f.stream; slot = f.slot }

abbrev tokens_in : Option SlotFeed → List (List (List WordDocument))
tokens_in None = []
tokens_in (Some f) = f.tokens

pub tokens_found : (fs : List SlotFeed) (stream : ℕ) (slot : Slot) → tokens_read fs stream slot ≡ tokens_in (first_in feed_at stream slot fs)
tokens_found [] stream slot = refl
tokens_found (f ∷ fs) stream slot = go (is_slot_in stream slot (feed_at f)) (tokens_found fs stream slot)
  where
    go : (b : Bool) → tokens_read fs stream slot ≡ tokens_in (first_in feed_at stream slot fs) → cond b f.tokens (tokens_read fs stream slot) ≡ tokens_in (cond b (Some f) (first_in feed_at stream slot fs))
    go true rest = refl
    go false rest = rest

pub tokens_rise : (fs : List SlotFeed) (stream : ℕ) (slot : Slot) → SlotFeedsRise fs → TokensRise (tokens_read fs stream slot)
tokens_rise [] stream slot rise = tt
tokens_rise (f ∷ fs) stream slot rise = go (is_slot_in stream slot (feed_at f)) (tokens_rise fs stream slot rise.1)
  where
    go : (b : Bool) → TokensRise (tokens_read fs stream slot) → TokensRise (cond b f.tokens (tokens_read fs stream slot))
    go true rest = rise.0
    go false rest = rest

pub of_some : (fs : List SlotFeed) (stream : ℕ) (slot : Slot) (found : Option SlotFeed) (f : SlotFeed) → found ≡ first_in feed_at stream slot fs → found ≡ Some f → tokens_read fs stream slot ≡ f.tokens
of_some fs stream slot found f is some = tokens_found fs stream slot ∙ ap tokens_in (sym is ∙ some)

pub of_none : (fs : List SlotFeed) (stream : ℕ) (slot : Slot) (found : Option SlotFeed) → found ≡ first_in feed_at stream slot fs → found ≡ None → tokens_read fs stream slot ≡ []
of_none fs stream slot found is none = tokens_found fs stream slot ∙ ap tokens_in (sym is ∙ none)
