-- Nearness asks which pairs an operand has, and not how they are ordered.
use Rattle.std.proofs.Common.{ℕ, ◌≡◌, ◌⊎◌, inl, inr, eqb, Bool, true, List, [], ◌∷◌, ◌++◌, refl, sym, ap, subst, ◌∙◌}
use Rattle.std.specs.Global.{Vec}
use Rattle.std.proofs.lemmas.Bool.{and_parts, and_from, or_cases, or_left, or_right, eqb-true, eq-eqb}
use Rattle.ct_base.specs.laws.Bools.{same_tests}
use Rattle.ct_base.specs.declared.numbers.Pair.{Pair}
use Rattle.ix_spans.specs.Occurrences.{same_pair, has_pair, choices, is_near, near_holds}
use Rattle.ix_spans.specs.InOrder.{StartsInOrder, EachInOrder, SamePairs, EachSame}
use Rattle.ix_spans.specs.Views.{pairs_view}
use Rattle.ix_spans.specs.laws.Choices.{Within, any_of, any_by, Picks, choice_picks, pick_choice}

-- ---- pairs in a list

same_is : (p q : Pair) → same_pair p q ≡ true → q ≡ p
same_is p q h =
    let parts = and_parts (eqb p.first q.first) (eqb p.last q.last) h in
    let first : q.first ≡ p.first = sym (eqb-true p.first q.first parts.0) in
    let last : q.last ≡ p.last = sym (eqb-true p.last q.last parts.1) in
    λ i. record { first = first i; last = last i }

is_same : (p q : Pair) → q ≡ p → same_pair p q ≡ true
is_same p q e = and_from (eqb p.first q.first) (eqb p.last q.last) (eq-eqb p.first q.first (λ i. (sym e i).first)) (eq-eqb p.last q.last (λ i. (sym e i).last))

pub within_has : (p : Pair) (ps : List Pair) → has_pair ps p ≡ true → Within p ps
within_has p [] h = cc
within_has p (q ∷ ps) h = go (within_has p ps) (or_cases (same_pair q p) (has_pair ps p) h)
  where
    go : (has_pair ps p ≡ true → Within p ps) → (same_pair q p ≡ true) ⊎ (has_pair ps p ≡ true) → Within p (q ∷ ps)
    go rest (inl k) = inl (same_is q p k)
    go rest (inr k) = inr (rest k)

pub has_within : (p : Pair) (ps : List Pair) → Within p ps → has_pair ps p ≡ true
has_within p [] w = absurd w
has_within p (q ∷ ps) (inl e) = or_left (same_pair q p) (has_pair ps p) (is_same q p e)
has_within p (q ∷ ps) (inr w) = or_right (same_pair q p) (has_pair ps p) (has_within p ps w)

-- ---- the same choices

same_other_way : (os ps : List (List Pair)) → EachSame os ps → EachSame ps os
same_other_way [] [] h = tt
same_other_way [] (p ∷ ps) h = absurd h
same_other_way (o ∷ os) [] h = absurd h
same_other_way (o ∷ os) (p ∷ ps) h = (λ q. sym (h.0 q), same_other_way os ps h.1)

picks_alike : (os ps : List (List Pair)) (c : List Pair) → EachSame os ps → Picks os c → Picks ps c
picks_alike [] [] c h k = k
picks_alike [] (p ∷ ps) c h k = absurd h
picks_alike (o ∷ os) [] c h k = absurd h
picks_alike (o ∷ os) (p ∷ ps) [] h k = absurd k
picks_alike (o ∷ os) (p ∷ ps) (q ∷ c) h k = (within_has q p (sym (h.0 q) ∙ has_within q o k.0), picks_alike os ps c h.1 k.1)

near_in_both : (os ps : List (List Pair)) (span : ℕ) (ordered : Bool) → EachSame os ps → near_holds os span ordered ≡ true → near_holds ps span ordered ≡ true
near_in_both os ps span ordered h near =
    let c = any_of (is_near span ordered) (choices os) near in
    any_by (is_near span ordered) (choices ps) c.0 (pick_choice ps c.0 (picks_alike os ps c.0 h (choice_picks os c.0 c.1))) c.2

-- WHERE EACH OPERAND HAS THE SAME PAIRS, they stand near one another in both cases or in neither.
pub near_alike : (os ps : List (List Pair)) (span : ℕ) (ordered : Bool) → EachSame os ps → near_holds os span ordered ≡ near_holds ps span ordered
near_alike os ps span ordered h = same_tests (near_holds os span ordered) (near_holds ps span ordered) (near_in_both os ps span ordered h) (near_in_both ps os span ordered (same_other_way os ps h))

-- ---- one operand more

pub pairs_push : (os : List (Vec Pair)) (o : Vec Pair) → pairs_view (os ++ o ∷ []) ≡ pairs_view os ++ o.items ∷ []
pairs_push [] o = refl
pairs_push (p ∷ os) o = ap (λ (l : List (List Pair)). p.items ∷ l) (pairs_push os o)

pub each_in_order_push : (os : List (List Pair)) (o : List Pair) → EachInOrder os → StartsInOrder o → EachInOrder (os ++ o ∷ [])
each_in_order_push [] o h k = (k, tt)
each_in_order_push (p ∷ os) o h k = (h.0, each_in_order_push os o h.1 k)

pub operands_push : (os : List (Vec Pair)) (o : Vec Pair) → EachInOrder (pairs_view os) → StartsInOrder o.items → EachInOrder (pairs_view (os ++ o ∷ []))
operands_push os o h k = subst EachInOrder (sym (pairs_push os o)) (each_in_order_push (pairs_view os) o.items h k)

pub each_same_push : (os ps : List (List Pair)) (o p : List Pair) → EachSame os ps → SamePairs o p → EachSame (os ++ o ∷ []) (ps ++ p ∷ [])
each_same_push [] [] o p h k = (k, tt)
each_same_push [] (q ∷ ps) o p h k = absurd h
each_same_push (r ∷ os) [] o p h k = absurd h
each_same_push (r ∷ os) (q ∷ ps) o p h k = (h.0, each_same_push os ps o p h.1 k)
