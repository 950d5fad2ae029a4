-- What the tests' lists are made of.
use Rattle.std.proofs.Common.{ℕ, ◌<◌, ◌+◌, List, [], ◌∷◌, ◌++◌, Option, arith}
use Rattle.std.specs.Global.{Vec}
use Rattle.ix_spans.specs.Rising.{Above, Rising}
use Rattle.ix_spans.specs.Slots.{SlotRises, SlotsRise}
use Rattle.ix_spans.specs.Views.{slot_view, slots_view}

-- ---- rising numbers

-- all of them are below a number
abbrev pub Below : ℕ → List ℕ → Type 0
Below p [] = Unit {0}
Below p (n ∷ ns) = (n < p) × Below p ns

above_push : (m : ℕ) (ns : List ℕ) (p : ℕ) → Above m ns → m < p → Below p ns → Above m (ns ++ p ∷ [])
above_push m [] p h lt below = (lt, tt)
above_push m (n ∷ ns) p h lt below = (h.0, above_push n ns p h.1 below.0 below.1)

pub rises_push : (ns : List ℕ) (p : ℕ) → Rising ns → Below p ns → Rising (ns ++ p ∷ [])
rises_push [] p h below = tt
rises_push (n ∷ ns) p h below = above_push n ns p h below.0 below.1

pub below_more : (p : ℕ) (ns : List ℕ) → Below p ns → Below (p + 1) ns
below_more p [] h = tt
below_more p (n ∷ ns) h = let f = h.0 in (omega (arith, f), below_more p ns h.1)

pub below_push : (p : ℕ) (ns : List ℕ) → Below p ns → Below (p + 1) (ns ++ p ∷ [])
below_push p [] h = (omega arith, tt)
below_push p (n ∷ ns) h = let f = h.0 in (omega (arith, f), below_push p ns h.1)

-- ---- one more

pub slots_push : (ss : List (Option (Vec ℕ))) (s : Option (Vec ℕ)) → SlotsRise (slots_view ss) → SlotRises (slot_view s) → SlotsRise (slots_view (ss ++ s ∷ []))
slots_push [] s h k = (k, tt)
slots_push (r ∷ ss) s h k = (h.0, slots_push ss s h.1 k)
