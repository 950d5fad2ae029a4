-- That what was read rises has one proof at most.
use Rattle.std.specs.Prelude.{ℕ, List, [], ◌∷◌}
use Rattle.std.specs.Coded.{×_prop, Unit-prop, le_prop, Coded-set, coded_ℕ}
use Rattle.std.proofs.Common.{inl, inr, ap, arith}
use denote.Struct.Props.{props}
use Rattle.ct_base.specs.declared.numbers.Pair.{Pair}
use Rattle.ix_posting.specs.declared.rows.RowDocument.{RowDocument}
use Rattle.ix_posting.specs.Rows.{WordDocument, DocumentsRise}
use Rattle.ix_posting.specs.Forms.{PlaceForm, PlacesRise, ComesAfter, number_form, pair_form}
use Rattle.ix_posting.specs.Lists.{posting_list}
use Rattle.ix_cursor.specs.declared.reading.SlotFeed.{SlotFeed}
use Rattle.ix_cursor.specs.declared.reading.SectionFeed.{SectionFeed}
use Rattle.ix_cursor.specs.declared.reading.Feeds.{Feeds}
use Rattle.ix_cursor.specs.Reading.{TokensRise, SlotFeedsRise, SectionFeedsRise, FeedsRise}

after_once : (a b : Pair) → IsProp (ComesAfter a b)
after_once a b (inl p) (inl q) = ap inl (le_prop p q)
after_once a b (inl p) (inr q) = let same = q.0 in absurd (omega (arith, p, same))
after_once a b (inr p) (inl q) = let same = p.0 in absurd (omega (arith, q, same))
after_once a b (inr p) (inr q) = ap inr (×_prop (Coded-set coded_ℕ a.first b.first) le_prop p q)

-- of a form two places follow each other in one way at most, and a place is one so
abbrev AreOnce : {P : Type 0} → PlaceForm P → Type 0
AreOnce {P} form = (before p : P) → IsProp (form.Follows before p × form.IsPlace p)

module _ {P : Type 0} (form : PlaceForm P) (once : AreOnce form) where
  places_once : (before : P) (ps : List P) → IsProp (PlacesRise form before ps)
  places_once before [] = Unit-prop
  places_once before (p ∷ ps) = λ x y i. let head = once before p (x.0, x.1) (y.0, y.1) i in (head.0, head.1, places_once p ps x.2 y.2 i)

  documents_once : (before : ℕ) (ds : List (RowDocument P)) → IsProp (DocumentsRise form before ds)
  documents_once before [] = Unit-prop
  documents_once before (d ∷ ds) = hlevel (props, places_once form.origin d.places, documents_once d.document ds)

numbers_once : AreOnce number_form
numbers_once before n = hlevel props

pairs_once : AreOnce pair_form
pairs_once before p = hlevel (props, after_once before p)

tokens_once : (tokens : List (List (List WordDocument))) → IsProp (TokensRise tokens)
tokens_once [] = Unit-prop
tokens_once (rows ∷ tokens) = ×_prop (documents_once number_form numbers_once 0 (posting_list rows)) (tokens_once tokens)

slots_once : (fs : List SlotFeed) → IsProp (SlotFeedsRise fs)
slots_once [] = Unit-prop
slots_once (f ∷ fs) = ×_prop (tokens_once f.tokens) (slots_once fs)

sections_once : (fs : List SectionFeed) → IsProp (SectionFeedsRise fs)
sections_once [] = Unit-prop
sections_once (f ∷ fs) = ×_prop (documents_once pair_form pairs_once 0 (posting_list f.rows)) (sections_once fs)

-- RISING FEEDS, in one way at most
pub feeds_once : (f : Feeds) → IsProp (FeedsRise f)
feeds_once f x y = λ i. record { slots = slots_once f.slots x.slots y.slots i; sections = sections_once f.sections x.sections y.sections i }
