-- Entries in the order of their keys: those above a key, and those whose keys begin alike.
use Rattle.std.specs.Prelude.{ℕ, ◌≡◌, ◌<◌, Bool, true, false, List, [], ◌∷◌, ◌++◌, filter, Some, None, refl}
use Rattle.std.proofs.Common.{cond, sym, ap, subst, ◌∙◌, arith, inl, inr}
use Rattle.std.specs.declared.cmp.Ordering.{Ordering}
use Rattle.std.specs.declared.cmp.Ordering.TheVariants.{Less}
use Rattle.std.proofs.lemmas.Bool.{eqb-true, eq-eqb, and_parts, and_from}
use Rattle.std.proofs.lemmas.Cmp.{tied_itself, nat_list_cmp_total}
use Rattle.std.specs.Ordering.{nat_cmp, is_lt, ordering_reverse}
use Rattle.std.specs.Cmp.Lexicographic.{slice_cmp}
use Rattle.std.specs.FinMap.{entries, is_sorted}
use Rattle.ct_base.specs.laws.Orders.{less_from_test, less_by_parts, lt_from_less, eq_from_equal}
use Rattle.ct_keep.specs.Content.{Content, entries_above, first_entry, begins_with}
use Rattle.ct_keep.specs.laws.RisingKeys.{below as below_by, rises as rises_by, sorted_from_rises as sorted_from_rises_by, entries_rise as entries_rise_by}

abbrev pub Entry : Type 0
Entry = List ℕ × List ℕ

-- how one key is to another, in the order of bytes
abbrev pub order : List ℕ → List ℕ → Ordering
order a b = slice_cmp nat_cmp a b

abbrev pub those_above : List ℕ → List Entry → List Entry
those_above k es = filter (λ e. is_lt (order k e.0)) es

abbrev pub beginning : List ℕ → List Entry → List Entry
beginning p es = filter (λ e. begins_with p e.0) es

-- every key is greater
abbrev pub below : List ℕ → List Entry → Bool
below x es = below_by (slice_cmp nat_cmp) x es

-- the keys strictly rise
abbrev pub is_rising : List Entry → Bool
is_rising es = rises_by (slice_cmp nat_cmp) es

not_back : (o : Ordering) → o ≡ Less → is_lt (ordering_reverse o) ≡ false
not_back o e = subst (λ r. is_lt (ordering_reverse r) ≡ false) (sym e) refl

-- ---- the entries of a content rise, and so do some of them

pub sorted_from_rises : (es : List Entry) → is_rising es ≡ true → is_sorted (slice_cmp nat_cmp) es ≡ true
sorted_from_rises es h = sorted_from_rises_by (slice_cmp nat_cmp) es h

pub entries_rise : (m : Content) → is_rising (entries m) ≡ true
entries_rise m = entries_rise_by (slice_cmp nat_cmp) m

pub below_filter : (p : Entry → Bool) (x : List ℕ) (es : List Entry) → below x es ≡ true → below x (filter p es) ≡ true
below_filter p x [] h = refl
below_filter p x (e ∷ es) h =
    let b = and_parts (is_lt (order x e.0)) (below x es) h in
    elim (p e) as (λ t. below x (cond t (e ∷ filter p es) (filter p es)) ≡ true) [ true ↦ and_from _ _ b.0 (below_filter p x es b.1) | false ↦ below_filter p x es b.1 ]

pub rises_filter : (p : Entry → Bool) (es : List Entry) → is_rising es ≡ true → is_rising (filter p es) ≡ true
rises_filter p [] h = refl
rises_filter p (e ∷ es) h =
    let b = and_parts (below e.0 es) (is_rising es) h in
    elim (p e) as (λ t. is_rising (cond t (e ∷ filter p es) (filter p es)) ≡ true) [ true ↦ and_from _ _ (below_filter p e.0 es b.0) (rises_filter p es b.1) | false ↦ rises_filter p es b.1 ]

-- a key below another is below all that the other is below
pub below_lower : (k x : List ℕ) (es : List Entry) → order k x ≡ Less → below x es ≡ true → below k es ≡ true
below_lower k x [] p h = refl
below_lower k x (e ∷ es) p h =
    let b = and_parts (is_lt (order x e.0)) (below x es) h in
    and_from _ _ (ap is_lt (nat_list_cmp_total.trans k x e.0 p (less_from_test _ b.0))) (below_lower k x es p b.1)

-- ---- the entries above a key

pub all_above : (k : List ℕ) (es : List Entry) → below k es ≡ true → those_above k es ≡ es
all_above k [] h = refl
all_above k (e ∷ es) h =
    let b = and_parts (is_lt (order k e.0)) (below k es) h in
    rw (less_from_test _ b.0) (ap (λ xs. e ∷ xs) (all_above k es b.1))

-- the first of them is above whatever the whole list is above
first_over : (x k : List ℕ) (es : List Entry) (e : Entry) (rest : List Entry) → below x es ≡ true → those_above k es ≡ e ∷ rest → order x e.0 ≡ Less
first_over x k [] e rest h is = cc
first_over x k (y ∷ ys) e rest h is =
    let b = and_parts (is_lt (order x y.0)) (below x ys) h in
    elim (is_lt (order k y.0)) as (λ t. cond t (y ∷ those_above k ys) (those_above k ys) ≡ e ∷ rest → order x e.0 ≡ Less) [
      | true ↦ λ is. let same : y ≡ e = cc in subst (λ (z : Entry). order x z.0 ≡ Less) same (less_from_test _ b.0)
      | false ↦ λ is. first_over x k ys e rest b.1 is
    ] is

pub first_is_above : (k : List ℕ) (es : List Entry) (e : Entry) (rest : List Entry) → those_above k es ≡ e ∷ rest → order k e.0 ≡ Less
first_is_above k [] e rest is = cc
first_is_above k (x ∷ xs) e rest is =
    elim (is_lt (order k x.0)) as (λ t. is_lt (order k x.0) ≡ t → cond t (x ∷ those_above k xs) (those_above k xs) ≡ e ∷ rest → order k e.0 ≡ Less) [
      | true ↦ λ t is. let same : x ≡ e = cc in subst (λ (z : Entry). order k z.0 ≡ Less) same (less_from_test _ t)
      | false ↦ λ t is. first_is_above k xs e rest is
    ] refl is

-- what is above the first of them is the rest
pub above_next : (k : List ℕ) (es : List Entry) (e : Entry) (rest : List Entry) → is_rising es ≡ true → those_above k es ≡ e ∷ rest → those_above e.0 es ≡ rest
above_next k [] e rest s is = cc
above_next k (x ∷ xs) e rest s is =
    let b = and_parts (below x.0 xs) (is_rising xs) s in
    elim (is_lt (order k x.0)) as (λ t. is_lt (order k x.0) ≡ t → cond t (x ∷ those_above k xs) (those_above k xs) ≡ e ∷ rest → those_above e.0 (x ∷ xs) ≡ rest) [
      | true ↦ λ t is.
          let same : x ≡ e = cc in
          let rests : those_above k xs ≡ rest = cc in
          subst (λ (z : Entry). those_above z.0 (x ∷ xs) ≡ rest) same
          (rw (tied_itself nat_list_cmp_total x.0) (all_above x.0 xs b.0 ∙ sym (all_above k xs (below_lower k x.0 xs (less_from_test _ t) b.0)) ∙ rests))
      | false ↦ λ t is.
          let up : order x.0 e.0 ≡ Less = first_over x.0 k xs e rest b.0 is in
          let down : is_lt (order e.0 x.0) ≡ false = rw (nat_list_cmp_total.antisymm e.0 x.0) (not_back _ up) in
          rw down (above_next k xs e rest b.1 is)
    ] refl is

-- the first entry above a key of a content, and those above its key
pub first_then : (m : Content) (k : List ℕ) (e : Entry) → Some e ≡ first_entry (entries_above k m) → entries_above k m ≡ e ∷ entries_above e.0 m
first_then m k e is = go (entries_above k m) refl is
  where
    go : (es : List Entry) → entries_above k m ≡ es → Some e ≡ first_entry es → entries_above k m ≡ e ∷ entries_above e.0 m
    go [] eq is = cc
    go (x ∷ xs) eq is =
        let same : e ≡ x = cc in
        let at : entries_above k m ≡ e ∷ xs = eq ∙ ap (λ (z : Entry). z ∷ xs) (sym same) in
        at ∙ ap (λ (zs : List Entry). e ∷ zs) (sym (above_next k (entries m) e xs (entries_rise m) at))

pub none_then : (m : Content) (k : List ℕ) → None ≡ first_entry (entries_above k m) → entries_above k m ≡ []
none_then m k is = go (entries_above k m) refl is
  where
    go : (es : List Entry) → entries_above k m ≡ es → None ≡ first_entry es → entries_above k m ≡ []
    go [] eq is = eq
    go (x ∷ xs) eq is = cc

-- ---- keys that begin alike

pub begins_with_prefix : (p q : List ℕ) → begins_with p (p ++ q) ≡ true
begins_with_prefix [] q = refl
begins_with_prefix (x ∷ p) q = and_from _ _ (eq-eqb x x refl) (begins_with_prefix p q)

pub begins_itself : (p : List ℕ) → begins_with p p ≡ true
begins_itself [] = refl
begins_itself (x ∷ p) = and_from _ _ (eq-eqb x x refl) (begins_itself p)

-- what lies between two keys that begin so begins so
pub convex : (p a b c : List ℕ) → begins_with p a ≡ true → order a b ≡ Less → order b c ≡ Less → begins_with p c ≡ true → begins_with p b ≡ true
convex [] a b c pa ab bc pc = refl
convex (x ∷ p) [] b c pa ab bc pc = cc
convex (x ∷ p) (y ∷ a) b [] pa ab bc pc = cc
convex (x ∷ p) (y ∷ a) [] (z ∷ c) pa ab bc pc = cc
convex (x ∷ p) (y ∷ a) (w ∷ b) (z ∷ c) pa ab bc pc =
    let e : x ≡ y = eqb-true x y (and_parts _ _ pa).0 in
    let f : x ≡ z = eqb-true x z (and_parts _ _ pc).0 in
    elim (less_by_parts _ _ ab) [
      | inl yw ↦ let lt : y < w = lt_from_less y w yw in
          elim (less_by_parts _ _ bc) [
            | inl wz ↦ let lt' : w < z = lt_from_less w z wz in absurd (omega arith)
            | inr wz ↦ let eq' : w ≡ z = eq_from_equal w z wz.0 in absurd (omega arith)
          ]
      | inr yw ↦ let eq : y ≡ w = eq_from_equal y w yw.0 in
          elim (less_by_parts _ _ bc) [
            | inl wz ↦ let lt' : w < z = lt_from_less w z wz in absurd (omega arith)
            | inr wz ↦ and_from _ _ (eq-eqb x w (e ∙ eq)) (convex p a b c (and_parts _ _ pa).1 yw.1 wz.1 (and_parts _ _ pc).1)
          ]
    ]

-- a key that begins so, and above it one that doesn't: no later one does
pub none_later : (p a b : List ℕ) (es : List Entry) → begins_with p a ≡ true → order a b ≡ Less → begins_with p b ≡ false → below b es ≡ true → beginning p es ≡ []
none_later p a b [] pa ab differs s = refl
none_later p a b (e ∷ es) pa ab differs s =
    let s2 = and_parts (is_lt (order b e.0)) (below b es) s in
    elim (begins_with p e.0) as (λ t. begins_with p e.0 ≡ t → cond t (e ∷ beginning p es) (beginning p es) ≡ []) [
      | true ↦ λ t. absurd (clash (begins_with p b) (convex p a b e.0 pa ab (less_from_test _ s2.0) t) differs)
      | false ↦ λ t. none_later p a b es pa ab differs s2.1
    ] refl
  where
    clash : (t : Bool) → t ≡ true → t ≡ false → ⊥
    clash t is isnt = cc

-- where the first entry above doesn't begin so, none above does
pub stops : (m : Content) (p k : List ℕ) (e : Entry) → begins_with p k ≡ true → Some e ≡ first_entry (entries_above k m) → begins_with p e.0 ≡ false → beginning p (entries_above k m) ≡ []
stops m p k e pk is differs =
    let next = first_then m k e is in
    let rise : is_rising (entries_above k m) ≡ true = rises_filter (λ e. is_lt (order k e.0)) (entries m) (entries_rise m) in
    let rise' : is_rising (e ∷ entries_above e.0 m) ≡ true = subst (λ (es : List Entry). is_rising es ≡ true) next rise in
    rw (next, differs) (none_later p k e.0 (entries_above e.0 m) pk (first_is_above k (entries m) e _ next) differs (and_parts (below e.0 (entries_above e.0 m)) _ rise').0)
