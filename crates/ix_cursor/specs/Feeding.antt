-- What the feeds of a query's parts have of each document.
use Rattle.std.specs.Prelude.{ℕ, ◌≡◌, List, map, Option, Some, None, refl}
use Rattle.ix_spans.specs.Occurrences.{Slots}
use Rattle.ix_cursor.specs.declared.feeds.TokenFeeds.{TokenFeeds}
use Rattle.ix_cursor.specs.declared.feeds.PhraseFeed.{PhraseFeed}
use Rattle.ix_cursor.specs.declared.feeds.TermFeed.{TermFeed}
use Rattle.ix_cursor.specs.Tokens.{tokens_at}

-- the documents of each slot of a phrase; None where any key fits
abbrev pub SlotDocuments : Type 0
SlotDocuments = List (Option TokenFeeds)

abbrev pub slot_at : Option TokenFeeds → ℕ → Option (List ℕ)
slot_at None d = None
slot_at (Some t) d = Some (tokens_at t.tokens.value d)

abbrev pub slots_at : SlotDocuments → ℕ → Slots
slots_at os d = map (λ o. slot_at o d) os

abbrev pub phrase_at : PhraseFeed → ℕ → Slots
phrase_at p d = slots_at p.slots.items d

abbrev pub phrases_at : List PhraseFeed → ℕ → List Slots
phrases_at ps d = map (λ p. phrase_at p d) ps

abbrev pub term_at : TermFeed → ℕ → List Slots
term_at t d = phrases_at t.phrases.items d

abbrev pub operands_at : List TermFeed → ℕ → List (List Slots)
operands_at os d = map (λ o. term_at o d) os

-- ---- computed example

any_word : slot_at None 3 ≡ None
any_word = refl
