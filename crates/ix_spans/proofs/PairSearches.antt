-- What searches find in pairs whose starts are in order.
use Rattle.std.proofs.Common.{ℕ, zero, suc, ◌≡◌, ◌≤◌, ◌<◌, ◌-◌, inl, inr, min, nat_lt, Bool, true, false, cond, List, [], ◌∷◌, None, length, get_or, drop, refl, sym, ap, subst, ◌∙◌, arith}
use Rattle.std.specs.List.{filter}
use Rattle.std.specs.List.Sorted.{IsPartitionPoint}
use Rattle.std.proofs.lemmas.Bool.{ltb-true, ltb-false, lt-leb, le-leb}
use Rattle.std.proofs.lemmas.List.Sorted.{IsNonDecreasingBy-drop}
use Rattle.std.proofs.Math.Seq.{drop-cons}
use Rattle.ct_base.specs.declared.numbers.Pair.{Pair}
use Rattle.ix_spans.specs.InOrder.{StartsInOrder}
use Rattle.ix_spans.specs.Windows.{most_turned, starts_from, least_of, first_by}
use Rattle.ix_spans.specs.laws.Choices.{Within}
use Rattle.ix_spans.proofs.Parting.{back_is}

-- ---- the first of them, and the others

place_of : (p : Pair) (ps : List Pair) → Within p ps → (k : ℕ) × (k < length ps) × (get_or ps k p ≡ p)
place_of p [] w = absurd w
place_of p (q ∷ ps) (inl e) = (0, omega arith, sym e)
place_of p (q ∷ ps) (inr w) = let r = place_of p ps w in (suc r.0, let l = r.1 in omega (arith, l), r.2)

pub first_starts : (q : Pair) (ps : List Pair) (p : Pair) → StartsInOrder (q ∷ ps) → Within p (q ∷ ps) → q.first ≤ p.first
first_starts q ps p h w =
    let r = place_of p (q ∷ ps) w in
    subst (λ (x : Pair). q.first ≤ x.first) r.2 (h 0 r.0 p (omega arith) r.1)

pub others_in_order : (q : Pair) (ps : List Pair) → StartsInOrder (q ∷ ps) → StartsInOrder ps
others_in_order q ps h i j d before within = h (suc i) (suc j) d (omega (arith, before)) (omega (arith, within))

-- ---- turned pairs

turned_within : (ps : List Pair) (p : Pair) → Within p ps → p.first - p.last ≤ most_turned ps
turned_within [] p w = absurd w
turned_within (q ∷ ps) p (inl e) = rw e (omega arith)
turned_within (q ∷ ps) p (inr w) = let r = turned_within ps p w in omega (arith, r)

pub turned_drop : (i : ℕ) (ps : List Pair) → most_turned (drop i ps) ≤ most_turned ps
turned_drop zero ps = omega arith
turned_drop (suc i) [] = omega arith
turned_drop (suc i) (p ∷ ps) = let r = turned_drop i ps in omega (arith, r)

-- from a pair on that starts far enough behind a number, all end behind it
past_all : (q : Pair) (ps : List Pair) (end turned : ℕ) → StartsInOrder (q ∷ ps) → most_turned (q ∷ ps) ≤ turned → end < q.first - turned → (p : Pair) → Within p (q ∷ ps) → end < p.last
past_all q ps end turned h most past p w =
    let starts = first_starts q ps p h w in
    let by = turned_within (q ∷ ps) p w in
    omega (arith, starts, by, most, past)

none_by : (end : ℕ) (ps : List Pair) → ((p : Pair) → Within p ps → end < p.last) → first_by end ps ≡ None
none_by end [] h = refl
none_by end (p ∷ ps) h = rw (lt-leb p.last end (h p (inl refl))) (none_by end ps (λ q w. h q (inr w)))

least_stays : (end : ℕ) (ps : List Pair) → ((p : Pair) → Within p ps → end < p.last) → least_of end ps ≡ end
least_stays end [] h = refl
least_stays end (p ∷ ps) h =
    let behind = h p (inl refl) in
    let same : min end p.last ≡ end = omega (arith, behind) in
    ap (λ n. least_of n ps) same ∙ least_stays end ps (λ q w. h q (inr w))

module _ (ps : List Pair) (i end turned : ℕ) (d : Pair) where
  past_from : StartsInOrder (drop i ps) → most_turned (drop i ps) ≤ turned → i < length ps → end < (get_or ps i d).first - turned → (p : Pair) → Within p (drop i ps) → end < p.last
  past_from h most within past =
      let parts : drop i ps ≡ get_or ps i d ∷ drop (suc i) ps = drop-cons ps i d within in
      subst (λ l. (p : Pair) → Within p l → end < p.last) (sym parts) (past_all (get_or ps i d) (drop (suc i) ps) end turned (subst StartsInOrder parts h) (subst (λ l. most_turned l ≤ turned) parts most) past)

-- a walk ends at such a pair
pub past_first : (ps : List Pair) (i end turned : ℕ) (d : Pair) → StartsInOrder ps → most_turned ps ≤ turned → i < length ps → end < (get_or ps i d).first - turned → first_by end (drop i ps) ≡ None
past_first ps i end turned d h most within past =
    let few = turned_drop i ps in
    none_by end (drop i ps) (past_from ps i end turned d (IsNonDecreasingBy-drop (λ (p : Pair). p.first) i ps h) (omega (arith, few, most)) within past)

pub past_least : (ps : List Pair) (i end turned : ℕ) (d : Pair) → StartsInOrder ps → most_turned ps ≤ turned → i < length ps → end < (get_or ps i d).first - turned → least_of end (drop i ps) ≡ end
past_least ps i end turned d h most within past =
    let few = turned_drop i ps in
    least_stays end (drop i ps) (past_from ps i end turned d (IsNonDecreasingBy-drop (λ (p : Pair). p.first) i ps h) (omega (arith, few, most)) within past)

-- ---- those from a number on

pub starting_point : (ps : List Pair) (s i : ℕ) → i ≤ length ps → IsPartitionPoint (λ (p : Pair). nat_lt p.first s ≡ true) (λ (p : Pair). nat_lt p.first s ≡ false) ps i → drop i ps ≡ filter (starts_from s) ps
starting_point ps s i within point =
    back_is (starts_from s) ps i within
    (λ k d h. lt-leb s (get_or ps k d).first (ltb-true (get_or ps k d).first s (point.0 k d (omega arith) h)))
    (λ k d h w. le-leb s (get_or ps k d).first (ltb-false (get_or ps k d).first s (point.1 k d h w)))

pub within_filter : (t : Pair → Bool) (ps : List Pair) (p : Pair) → Within p (filter t ps) → Within p ps × (t p ≡ true)
within_filter t [] p w = absurd w
within_filter t (q ∷ ps) p w = go (within_filter t ps p) (t q) refl w
  where
    go : (Within p (filter t ps) → Within p ps × (t p ≡ true)) → (b : Bool) → t q ≡ b → Within p (cond b (q ∷ filter t ps) (filter t ps)) → Within p (q ∷ ps) × (t p ≡ true)
    go rest true is (inl e) = (inl e, ap t e ∙ is)
    go rest true is (inr v) = let r = rest v in (inr r.0, r.1)
    go rest false is v = let r = rest v in (inr r.0, r.1)

pub filter_within : (t : Pair → Bool) (ps : List Pair) (p : Pair) → Within p ps → t p ≡ true → Within p (filter t ps)
filter_within t [] p w h = absurd w
filter_within t (q ∷ ps) p (inl e) h = rw (sym (ap t e) ∙ h) (inl e)
filter_within t (q ∷ ps) p (inr w) h = go (t q) (filter_within t ps p w h)
  where
    go : (b : Bool) → Within p (filter t ps) → Within p (cond b (q ∷ filter t ps) (filter t ps))
    go true v = inr v
    go false v = v
