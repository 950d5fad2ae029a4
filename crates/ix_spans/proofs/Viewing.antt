-- Slots and operands as they lie in memory.
use Rattle.std.proofs.Common.{ℕ, zero, ◌≡◌, List, [], ◌∷◌, Option, None, length, get_or, suc, ◌<◌, ◌≤◌, refl, sym, ap, subst, ◌∙◌, arith}
use Rattle.std.proofs.lemmas.List.{get_or_read}
use Rattle.std.specs.Global.{Vec}
use Rattle.ct_base.specs.declared.numbers.Pair.{Pair}
use Rattle.ix_spans.specs.InOrder.{StartsInOrder, EachInOrder}
use Rattle.ix_spans.specs.Windows.{most_turned, all_turned}
use Rattle.ix_spans.specs.Views.{slot_view, slots_view, pairs_view}

pub views_length : (ss : List (Option (Vec ℕ))) → length (slots_view ss) ≡ length ss
views_length [] = refl
views_length (s ∷ ss) = ap (λ n. suc n) (views_length ss)

pub view_at : (ss : List (Option (Vec ℕ))) (i : ℕ) → get_or (slots_view ss) i None ≡ slot_view (get_or ss i None)
view_at [] i = refl
view_at (s ∷ ss) zero = refl
view_at (s ∷ ss) (suc i) = view_at ss i

-- what a read of a slot gives
pub slot_read : (ss : List (Option (Vec ℕ))) (i : ℕ) (x : Option (Vec ℕ)) → i < length ss → x ≡ get_or ss i x → get_or (slots_view ss) i None ≡ slot_view x
slot_read ss i x within is = view_at ss i ∙ ap slot_view (sym (get_or_read ss i x within is None))

-- what a read of an operand gives
pub order_read : (os : List (Vec Pair)) (i : ℕ) (o : Vec Pair) → i < length os → o ≡ get_or os i o → EachInOrder (pairs_view os) → StartsInOrder o.items
order_read [] i o within is h = absurd (omega (arith, within))
order_read (p ∷ os) zero o within is h = subst (λ (v : Vec Pair). StartsInOrder v.items) (sym is) h.0
order_read (p ∷ os) (suc i) o within is h = order_read os i o (omega (arith, within)) is h.1

pub turned_read : (os : List (Vec Pair)) (i : ℕ) (o : Vec Pair) → i < length os → o ≡ get_or os i o → most_turned o.items ≤ all_turned (pairs_view os)
turned_read [] i o within is = absurd (omega (arith, within))
turned_read (p ∷ os) zero o within is = subst (λ (v : Vec Pair). most_turned v.items ≤ all_turned (pairs_view (p ∷ os))) (sym is) (omega arith)
turned_read (p ∷ os) (suc i) o within is = let rest = turned_read os i o (omega (arith, within)) is in omega (arith, rest)
