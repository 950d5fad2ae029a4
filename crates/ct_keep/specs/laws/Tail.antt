-- Laws of what stands behind a prefix: its entries in order, and what it has at each key.
use Rattle.std.specs.Prelude.{ℕ, ◌≡◌, Bool, true, false, List, [], ◌∷◌, ◌++◌, length, drop, ◌≢◌, Option, Some, None, codes, refl}
use Rattle.std.proofs.Common.{cond, sym, ap, subst, ◌∙◌, append-nil, append_assoc}
use Rattle.std.specs.declared.cmp.Ordering.{Ordering}
use Rattle.std.specs.declared.cmp.Ordering.TheVariants.{Less, Equal}
use Rattle.std.specs.Ordering.{nat_cmp, is_lt, is_eq}
use Rattle.std.proofs.lemmas.Bool.{eqb-true, and_parts, and_from}
use Rattle.std.proofs.lemmas.Cmp.{tied_itself, nat_cmp_total, nat_list_cmp_total}
use Rattle.std.specs.Cmp.Lexicographic.{slice_cmp}
use Rattle.std.specs.FinMap.{get, entries, is_sorted, find, entries-from_sorted, get-from_sorted, get-entries, empty}
use Rattle.ct_keep.specs.Content.{Content, set_to, after, first_entry, entries_above, entries_under, begins_with}
use Rattle.ct_keep.specs.laws.Rising.{Entry, order, those_above, beginning, below, is_rising, rises_filter, entries_rise, sorted_from_rises, begins_itself, begins_with_prefix, stops, first_then, none_then}
use Rattle.ct_base.specs.laws.Orders.{less_from_test}
use Rattle.ct_base.specs.laws.Bools.{T_from_true}
use Rattle.ct_keep.specs.laws.Content.{same, same_keys, same_other, same-prefix, get-set_to, same_content, three_changes, under_a}
use Rattle.ct_keep.specs.Tail.{cut, tail, left_under, rest_under}

-- ---- keys that begin alike, and their rests

-- they are in the order of their rests
cut_order : (p a b : List ℕ) → begins_with p a ≡ true → begins_with p b ≡ true → order (drop (length p) a) (drop (length p) b) ≡ order a b
cut_order [] a b pa pb = refl
cut_order (x ∷ p) [] b pa pb = cc
cut_order (x ∷ p) (y ∷ a) [] pa pb = cc
cut_order (x ∷ p) (y ∷ a) (z ∷ b) pa pb =
    let e : x ≡ y = eqb-true x y (and_parts _ _ pa).0 in
    let f : x ≡ z = eqb-true x z (and_parts _ _ pb).0 in
    let same : nat_cmp y z ≡ Equal = rw (sym e, sym f) (tied_itself nat_cmp_total x) in
    rw same (cut_order p a b (and_parts _ _ pa).1 (and_parts _ _ pb).1)

pub drop_prefix : (p q : List ℕ) → drop (length p) (p ++ q) ≡ q
drop_prefix [] q = refl
drop_prefix (x ∷ p) q = drop_prefix p q

-- the prefix and the rest are the key
pub prefix_and_rest : (p k : List ℕ) → begins_with p k ≡ true → p ++ drop (length p) k ≡ k
prefix_and_rest [] k b = refl
prefix_and_rest (x ∷ p) [] b = cc
prefix_and_rest (x ∷ p) (y ∷ k) b =
    let e : x ≡ y = eqb-true x y (and_parts _ _ b).0 in
    ap (λ (z : ℕ). z ∷ (p ++ drop (length p) k)) e ∙ ap (λ (l : List ℕ). y ∷ l) (prefix_and_rest p k (and_parts _ _ b).1)

prefix_order : (p a k : List ℕ) → begins_with p k ≡ true → order a (drop (length p) k) ≡ order (p ++ a) k
prefix_order p a k b = ap (λ (r : List ℕ). order r (drop (length p) k)) (sym (drop_prefix p a)) ∙ cut_order p (p ++ a) k (begins_with_prefix p a) b

longer : (p : List ℕ) (x : ℕ) (q : List ℕ) → order p (p ++ x ∷ q) ≡ Less
longer [] x q = refl
longer (y ∷ p) x q = rw (tied_itself nat_cmp_total y) (longer p x q)

-- what is above a key that begins so is above the prefix
prefix_lower : (p a k : List ℕ) → order (p ++ a) k ≡ Less → order p k ≡ Less
prefix_lower p [] k lt = ap (λ (r : List ℕ). order r k) (sym (append-nil p)) ∙ lt
prefix_lower p (x ∷ a) k lt = nat_list_cmp_total.trans p (p ++ x ∷ a) k (longer p x a) lt

-- ---- the entries of a tail

abbrev AllBegin : List ℕ → List Entry → Type 0
AllBegin p [] = Unit {0}
AllBegin p (e ∷ es) = (begins_with p e.0 ≡ true) × AllBegin p es

all_begin : (p : List ℕ) (es : List Entry) → AllBegin p (beginning p es)
all_begin p [] = tt
all_begin p (e ∷ es) = elim (begins_with p e.0) as (λ b. begins_with p e.0 ≡ b → AllBegin p (cond b (e ∷ beginning p es) (beginning p es))) [ true ↦ λ h. (h, all_begin p es) | false ↦ λ h. all_begin p es ] refl

below_cut : (p a : List ℕ) (es : List Entry) → begins_with p a ≡ true → AllBegin p es → below a es ≡ true → below (drop (length p) a) (cut (length p) es) ≡ true
below_cut p a [] pa h b = refl
below_cut p a (e ∷ es) pa h b = let b2 = and_parts (is_lt (order a e.0)) (below a es) b in and_from _ _ (ap is_lt (cut_order p a e.0 pa h.0) ∙ b2.0) (below_cut p a es pa h.1 b2.1)

rises_cut : (p : List ℕ) (es : List Entry) → AllBegin p es → is_rising es ≡ true → is_rising (cut (length p) es) ≡ true
rises_cut p [] h r = refl
rises_cut p (e ∷ es) h r = let r2 = and_parts (below e.0 es) (is_rising es) r in and_from _ _ (below_cut p e.0 es h.0 h.1 r2.0) (rises_cut p es h.1 r2.1)

sorted_cut : (p : List ℕ) (m : Content) → is_sorted (slice_cmp nat_cmp) (cut (length p) (entries_under p m)) ≡ true
sorted_cut p m =
    let up : is_rising (entries_under p m) ≡ true = rises_filter (λ e. begins_with p e.0) (entries_above p m) (rises_filter (λ e. is_lt (order p e.0)) (entries m) (entries_rise m)) in
    sorted_from_rises (cut (length p) (entries_under p m)) (rises_cut p (entries_under p m) (all_begin p (entries_above p m)) up)

pub entries-tail : (p : List ℕ) (m : Content) → entries (tail p m) ≡ cut (length p) (entries_under p m)
unfolding tail
entries-tail p m = entries-from_sorted (slice_cmp nat_cmp) (cut (length p) (entries_under p m)) (T_from_true _ (sorted_cut p m))

-- an entry whose key begins so, kept by the one test where the other keeps it
above_one : (p a : List ℕ) (e : Entry) (xs ys : List Entry) → begins_with p e.0 ≡ true → those_above a (cut (length p) (beginning p xs)) ≡ cut (length p) (beginning p ys)
    → (s t : Bool) → is_lt (order p e.0) ≡ s → is_lt (order (p ++ a) e.0) ≡ t → those_above a (cut (length p) (beginning p (cond s (e ∷ xs) xs))) ≡ cut (length p) (beginning p (cond t (e ∷ ys) ys))
above_one p a e xs ys b rest true true s t = let u : is_lt (order a (drop (length p) e.0)) ≡ true = ap is_lt (prefix_order p a e.0 b) ∙ t in rw (b, u) (ap (λ (l : List Entry). (drop (length p) e.0, e.1) ∷ l) rest)
above_one p a e xs ys b rest true false s t = let u : is_lt (order a (drop (length p) e.0)) ≡ false = ap is_lt (prefix_order p a e.0 b) ∙ t in rw (b, u) rest
above_one p a e xs ys b rest false true s t = let u : is_lt (order p e.0) ≡ true = ap is_lt (prefix_lower p a e.0 (less_from_test _ t)) in cc
above_one p a e xs ys b rest false false s t = rest

-- an entry whose key doesn't begin so
above_other : (p : List ℕ) (e : Entry) (xs : List Entry) → begins_with p e.0 ≡ false → (s : Bool) → beginning p (cond s (e ∷ xs) xs) ≡ beginning p xs
above_other p e xs b true = rw b refl
above_other p e xs b false = refl

above_cut : (p a : List ℕ) (es : List Entry) → those_above a (cut (length p) (beginning p (those_above p es))) ≡ cut (length p) (beginning p (those_above (p ++ a) es))
above_cut p a [] = refl
above_cut p a (e ∷ es) =
    elim (begins_with p e.0) as (λ b. begins_with p e.0 ≡ b → those_above a (cut (length p) (beginning p (those_above p (e ∷ es)))) ≡ cut (length p) (beginning p (those_above (p ++ a) (e ∷ es)))) [
      | true ↦ λ b. above_one p a e (those_above p es) (those_above (p ++ a) es) b (above_cut p a es) (is_lt (order p e.0)) (is_lt (order (p ++ a) e.0)) refl refl
      | false ↦ λ b.
          ap (λ (l : List Entry). those_above a (cut (length p) l)) (above_other p e (those_above p es) b (is_lt (order p e.0)))
          ∙ above_cut p a es ∙ ap (cut (length p)) (sym (above_other p e (those_above (p ++ a) es) b (is_lt (order (p ++ a) e.0))))
    ] refl

-- the entries of a tail above a key
pub entries_above-tail : (p a : List ℕ) (m : Content) → entries_above a (tail p m) ≡ cut (length p) (left_under p (p ++ a) m)
entries_above-tail p a m = ap (those_above a) (entries-tail p m) ∙ above_cut p a (entries m)

-- each entry of a tail is above the empty key
pub entries_above-tail_nil : (p : List ℕ) (m : Content) → entries_above [] (tail p m) ≡ entries (tail p m)
entries_above-tail_nil p m = entries_above-tail p [] m ∙ ap (λ (k : List ℕ). cut (length p) (left_under p k m)) (append-nil p) ∙ sym (entries-tail p m)

-- the first of the entries above a key that begins so, if it begins so too
first_left : (p k : List ℕ) (m : Content) → begins_with p k ≡ true → first_entry (cut (length p) (left_under p k m)) ≡ rest_under p (first_entry (entries_above k m))
first_left p k m pk = go (first_entry (entries_above k m)) refl
  where
    at : (e : Entry) (b : Bool) → begins_with p e.0 ≡ b → Some e ≡ first_entry (entries_above k m) → first_entry (cut (length p) (left_under p k m)) ≡ cond b (Some (drop (length p) e.0, e.1)) None
    at e true b is = rw (first_then m k e is, b) refl
    at e false b is = rw (stops m p k e pk is b) refl

    go : (o : Option Entry) → o ≡ first_entry (entries_above k m) → first_entry (cut (length p) (left_under p k m)) ≡ rest_under p o
    go None is = rw (none_then m k is) refl
    go (Some e) is = at e (begins_with p e.0) refl is

-- the first entry of a tail above a key, by one look-up behind the prefix and that key
pub first_above-tail : (p a : List ℕ) (m : Content) → first_entry (entries_above a (tail p m)) ≡ rest_under p (first_entry (entries_above (p ++ a) m))
first_above-tail p a m = ap first_entry (entries_above-tail p a m) ∙ first_left p (p ++ a) m (begins_with_prefix p a)

-- the first entry of a tail
pub first-tail : (p : List ℕ) (m : Content) → first_entry (entries (tail p m)) ≡ rest_under p (first_entry (entries_above p m))
first-tail p m = ap first_entry (entries-tail p m) ∙ first_left p p m (begins_itself p)

-- ---- what a tail has at a key

missed : (k : List ℕ) (e : Entry) (es : List Entry) → (k ≡ e.0 → ⊥) → find (slice_cmp nat_cmp) k (e ∷ es) ≡ find (slice_cmp nat_cmp) k es
missed k e es apart = elim (is_eq (order k e.0)) as (λ t. is_eq (order k e.0) ≡ t → cond t (Some e.1) (find (slice_cmp nat_cmp) k es) ≡ find (slice_cmp nat_cmp) k es) [
  | true ↦ λ t. absurd (apart (same_keys k e.0 t))
  | false ↦ λ t. refl
] refl

-- the entries that are under the prefix are those whose rest is looked up
find_under : (p : List ℕ) (x : ℕ) (q : List ℕ) (es : List Entry) → find (slice_cmp nat_cmp) (x ∷ q) (cut (length p) (beginning p (those_above p es))) ≡ find (slice_cmp nat_cmp) (p ++ x ∷ q) es
find_under p x q [] = refl
find_under p x q (e ∷ es) =
    elim (is_lt (order p e.0)) as (λ a. is_lt (order p e.0) ≡ a → find (slice_cmp nat_cmp) (x ∷ q) (cut (length p) (beginning p (cond a (e ∷ those_above p es) (those_above p es)))) ≡ find (slice_cmp nat_cmp) (p ++ x ∷ q) (e ∷ es)) [
      | true ↦ λ a. elim (begins_with p e.0) as (λ b. begins_with p e.0 ≡ b → find (slice_cmp nat_cmp) (x ∷ q) (cut (length p) (cond b (e ∷ beginning p (those_above p es)) (beginning p (those_above p es)))) ≡ find (slice_cmp nat_cmp) (p ++ x ∷ q) (e ∷ es)) [
        | true ↦ λ b.
            ap (λ (o : Ordering). cond (is_eq o) (Some e.1) (find (slice_cmp nat_cmp) (x ∷ q) (cut (length p) (beginning p (those_above p es))))) (prefix_order p (x ∷ q) e.0 b)
            ∙ ap (λ (o : Option (List ℕ)). cond (is_eq (order (p ++ x ∷ q) e.0)) (Some e.1) o) (find_under p x q es)
        | false ↦ λ b. find_under p x q es ∙ sym (missed (p ++ x ∷ q) e es (λ h. let is : begins_with p e.0 ≡ true = subst (λ (k : List ℕ). begins_with p k ≡ true) h (begins_with_prefix p (x ∷ q)) in cc))
      ] refl
      | false ↦ λ a. find_under p x q es ∙ sym (missed (p ++ x ∷ q) e es (λ h. let is : is_lt (order p e.0) ≡ true = subst (λ (k : List ℕ). is_lt (order p k) ≡ true) h (ap is_lt (longer p x q)) in cc))
    ] refl

-- at the rest of a key it has what the content has at the whole key
pub get-tail : (p : List ℕ) (m : Content) (x : ℕ) (q : List ℕ) → get (tail p m) (x ∷ q) ≡ get m (p ++ x ∷ q)
unfolding tail
get-tail p m x q = get-from_sorted (slice_cmp nat_cmp) (cut (length p) (entries_under p m)) (x ∷ q) (T_from_true _ (sorted_cut p m)) ∙ find_under p x q (entries m) ∙ sym (get-entries m (p ++ x ∷ q))

find_nil : (p : List ℕ) (es : List Entry) → find (slice_cmp nat_cmp) [] (cut (length p) (beginning p (those_above p es))) ≡ None
find_nil p [] = refl
find_nil p (e ∷ es) =
    elim (is_lt (order p e.0)) as (λ a. is_lt (order p e.0) ≡ a → find (slice_cmp nat_cmp) [] (cut (length p) (beginning p (cond a (e ∷ those_above p es) (those_above p es)))) ≡ None) [
      | true ↦ λ a. elim (begins_with p e.0) as (λ b. begins_with p e.0 ≡ b → find (slice_cmp nat_cmp) [] (cut (length p) (cond b (e ∷ beginning p (those_above p es)) (beginning p (those_above p es)))) ≡ None) [
        | true ↦ λ b.
            let key : order [] (drop (length p) e.0) ≡ Less = prefix_order p [] e.0 b ∙ ap (λ (k : List ℕ). order k e.0) (append-nil p) ∙ less_from_test _ a in
            ap (λ (o : Ordering). cond (is_eq o) (Some e.1) (find (slice_cmp nat_cmp) [] (cut (length p) (beginning p (those_above p es))))) key ∙ find_nil p es
        | false ↦ λ b. find_nil p es
      ] refl
      | false ↦ λ a. find_nil p es
    ] refl

-- the prefix itself isn't behind it
pub get-tail_nil : (p : List ℕ) (m : Content) → get (tail p m) [] ≡ None
unfolding tail
get-tail_nil p m = get-from_sorted (slice_cmp nat_cmp) (cut (length p) (entries_under p m)) [] (T_from_true _ (sorted_cut p m)) ∙ find_nil p (entries m)

-- ---- tails of tails, and tails of changed contents

-- a tail of a tail is one behind both prefixes
pub tail-tail : (p q : List ℕ) (m : Content) → tail q (tail p m) ≡ tail (p ++ q) m
tail-tail p q m = same_content _ _ at
  where
    whole : (q : List ℕ) (x : ℕ) (r : List ℕ) → get (tail p m) (q ++ x ∷ r) ≡ get m (p ++ (q ++ x ∷ r))
    whole [] x r = get-tail p m x r
    whole (y ∷ q) x r = get-tail p m y (q ++ x ∷ r)

    at : (k : List ℕ) → get (tail q (tail p m)) k ≡ get (tail (p ++ q) m) k
    at [] = get-tail_nil q (tail p m) ∙ sym (get-tail_nil (p ++ q) m)
    at (x ∷ r) = get-tail q (tail p m) x r ∙ whole q x r ∙ ap (get m) (sym (append_assoc p q (x ∷ r))) ∙ sym (get-tail (p ++ q) m x r)

-- a change behind the prefix is one of the tail
pub tail-set_to : (p : List ℕ) (x : ℕ) (q : List ℕ) (o : Option (List ℕ)) (m : Content) → tail p (set_to (p ++ x ∷ q) o m) ≡ set_to (x ∷ q) o (tail p m)
tail-set_to p x q o m = same_content _ _ at
  where
    at : (k : List ℕ) → get (tail p (set_to (p ++ x ∷ q) o m)) k ≡ get (set_to (x ∷ q) o (tail p m)) k
    at [] = get-tail_nil p (set_to (p ++ x ∷ q) o m) ∙ sym (get-set_to (x ∷ q) o (tail p m) [] ∙ get-tail_nil p m)
    at (y ∷ r) =
        get-tail p (set_to (p ++ x ∷ q) o m) y r ∙ get-set_to (p ++ x ∷ q) o m (p ++ y ∷ r)
        ∙ ap (λ (b : Bool). cond b o (get m (p ++ y ∷ r))) (same-prefix p (y ∷ r) (x ∷ q))
        ∙ ap (cond (same (y ∷ r) (x ∷ q)) o) (sym (get-tail p m y r))
        ∙ sym (get-set_to (x ∷ q) o (tail p m) (y ∷ r))

-- one of a key that doesn't begin so leaves the tail
pub tail-set_to_other : (p key : List ℕ) (o : Option (List ℕ)) (m : Content) → begins_with p key ≡ false → tail p (set_to key o m) ≡ tail p m
tail-set_to_other p key o m differs = same_content _ _ at
  where
    apart : (k : List ℕ) → p ++ k ≢ key
    apart k is = let begins : begins_with p key ≡ true = subst (λ (l : List ℕ). begins_with p l ≡ true) is (begins_with_prefix p k) in cc

    at : (k : List ℕ) → get (tail p (set_to key o m)) k ≡ get (tail p m) k
    at [] = get-tail_nil p (set_to key o m) ∙ sym (get-tail_nil p m)
    at (y ∷ r) =
        get-tail p (set_to key o m) y r ∙ get-set_to key o m (p ++ y ∷ r)
        ∙ ap (λ (b : Bool). cond b o (get m (p ++ y ∷ r))) (same_other (p ++ y ∷ r) key (apart (y ∷ r)))
        ∙ sym (get-tail p m y r)

-- computed example: the rests of the keys, without the prefix itself and without a neighbour
behind_a : entries (tail (codes "a") (after three_changes empty)) ≡ (codes "b", codes "y") ∷ []
behind_a = entries-tail (codes "a") (after three_changes empty) ∙ ap (cut 1) under_a
