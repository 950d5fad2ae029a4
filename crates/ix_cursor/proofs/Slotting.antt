-- Slots and phrases, one after the other.
use Rattle.std.proofs.Common.{ℕ, ◌≡◌, List, [], ◌∷◌, ◌++◌, Option, Some, None, set, get_or, zero, suc, refl, ap, ◌∙◌}
use Rattle.ix_spans.specs.Occurrences.{Slots}
use Rattle.ix_spans.specs.Slots.{SlotRises, SlotsRise}
use Rattle.ix_cursor.specs.declared.feeds.TokenFeeds.{TokenFeeds}
use Rattle.ix_cursor.specs.declared.feeds.PhraseFeed.{PhraseFeed}
use Rattle.ix_cursor.specs.declared.feeds.TermFeed.{TermFeed}
use Rattle.ix_cursor.specs.Feeding.{SlotDocuments, slot_at, slots_at, phrases_at, term_at, operands_at}
use Rattle.ix_cursor.proofs.Trees.{tokens_rise}

-- ---- one slot of several

-- a slot that has the same of a document
pub slots_set : (os : SlotDocuments) (i : ℕ) (o x : Option TokenFeeds) (d : ℕ) → x ≡ get_or os i x → slot_at o d ≡ slot_at x d → slots_at (set os i o) d ≡ slots_at os d
slots_set [] i o x d is h = refl
slots_set (y ∷ os) zero o x d is h = ap (λ s. s ∷ slots_at os d) (h ∙ ap (λ w. slot_at w d) is)
slots_set (y ∷ os) (suc i) o x d is h = ap (λ ss. slot_at y d ∷ ss) (slots_set os i o x d is h)

-- ---- one phrase of several

pub phrases_set : (ps : List PhraseFeed) (i : ℕ) (p x : PhraseFeed) (d : ℕ) → x ≡ get_or ps i x → slots_at p.slots.items d ≡ slots_at x.slots.items d → phrases_at (set ps i p) d ≡ phrases_at ps d
phrases_set [] i p x d is h = refl
phrases_set (y ∷ ps) zero p x d is h = ap (λ s. s ∷ phrases_at ps d) (h ∙ ap (λ (w : PhraseFeed). slots_at w.slots.items d) is)
phrases_set (y ∷ ps) (suc i) p x d is h = ap (λ ss. slots_at y.slots.items d ∷ ss) (phrases_set ps i p x d is h)

-- ---- operands

pub operands_set : (os : List TermFeed) (i : ℕ) (o x : TermFeed) (d : ℕ) → x ≡ get_or os i x → term_at o d ≡ term_at x d → operands_at (set os i o) d ≡ operands_at os d
operands_set [] i o x d is h = refl
operands_set (y ∷ os) zero o x d is h = ap (λ s. s ∷ operands_at os d) (h ∙ ap (λ (w : TermFeed). term_at w d) is)
operands_set (y ∷ os) (suc i) o x d is h = ap (λ ss. term_at y d ∷ ss) (operands_set os i o x d is h)

-- ---- positions rise

pub slot_rises : (o : Option TokenFeeds) (d : ℕ) → SlotRises (slot_at o d)
slot_rises None d = tt
slot_rises (Some t) d = tokens_rise t.tokens.value d

pub slots_rise : (os : SlotDocuments) (d : ℕ) → SlotsRise (slots_at os d)
slots_rise [] d = tt
slots_rise (o ∷ os) d = (slot_rises o d, slots_rise os d)

pub first_slots_rise : (ss ts : Slots) → SlotsRise (ss ++ ts) → SlotsRise ss
first_slots_rise [] ts h = tt
first_slots_rise (s ∷ ss) ts h = (h.0, first_slots_rise ss ts h.1)
