-- Rows in lists: which they are, in which order, and how many.
use Rattle.std.proofs.Common.{ℤ, ◌≡◌, ◌+◌, ◌≤◌, inl, inr, Bool, true, false, cond, ◌||◌, List, [], ◌∷◌, length, map, refl, sym, ap, subst, ◌∙◌, arith}
use Rattle.std.specs.Prelude.{filter}
use Rattle.std.specs.List.{AllByRecursion, list_any, dedup, dedup_from}
use Rattle.std.specs.List.Sorted.{IsStrictlySortedBy}
use Rattle.std.specs.declared.cmp.Ordering.{Ordering}
use Rattle.std.specs.declared.cmp.Ordering.TheVariants.{Less, Equal, Greater}
use Rattle.std.specs.Ordering.{int_cmp, is_lt, is_eq, eq_by_cmp}
use Rattle.std.proofs.lemmas.Bool.{and_parts, and_from, or_cases, or_left, or_right}
use Rattle.std.proofs.lemmas.Cmp.{int_cmp_total, tied_itself}
use Rattle.std.proofs.lemmas.Int.{ints}
use Rattle.ct_base.specs.declared.numbers.RowKey.{RowKey}
use Rattle.ct_base.specs.laws.Bools.{or_twice}
use Rattle.ct_base.specs.laws.Orders.{less_from_test}
use Rattle.ct_entry.specs.laws.Rows.{keys_below, keys_rise_by, apart_below}
use Rattle.cat_search.specs.SubIndexes.{is_row_among}
use Rattle.cat_search.specs.laws.Few.{filters_fewer}
use Rattle.cat_search.specs.laws.Met.{same_key}

-- ---- orders

key_then : (a b c : ℤ) → is_lt (int_cmp a b) ≡ true → is_lt (int_cmp b c) ≡ true → is_lt (int_cmp a c) ≡ true
key_then a b c p q = ap is_lt (int_cmp_total.trans a b c (less_from_test (int_cmp a b) p) (less_from_test (int_cmp b c) q))

below_then : (a b : ℤ) (ks : List ℤ) → is_lt (int_cmp a b) ≡ true → keys_below int_cmp b ks ≡ true → keys_below int_cmp a ks ≡ true
below_then a b [] less low = refl
below_then a b (k ∷ ks) less low =
    let p = and_parts (is_lt (int_cmp b k)) (keys_below int_cmp b ks) low in
    and_from (is_lt (int_cmp a k)) (keys_below int_cmp a ks) (key_then a b k less p.0) (below_then a b ks less p.1)

pub key_itself : (r : ℤ) → eq_by_cmp int_cmp r r ≡ true
key_itself r = ap is_eq (tied_itself int_cmp_total r)

-- ---- lists in order with the same rows are one

at_head : (r : ℤ) (rs : List ℤ) → is_row_among r (r ∷ rs) ≡ true
at_head r rs = or_left (eq_by_cmp int_cmp r r) (is_row_among r rs) (key_itself r)

-- one that is below the first isn't among them
not_among : (r k : ℤ) (ks : List ℤ) → is_lt (int_cmp r k) ≡ true → keys_below int_cmp k ks ≡ true → is_row_among r (k ∷ ks) ≡ false
not_among r k ks less low = apart_below int_cmp r (k ∷ ks) (and_from (is_lt (int_cmp r k)) (keys_below int_cmp r ks) less (below_then r k ks less low))

-- the same first one taken away
same_rest : (x y : ℤ) (xs ys : List ℤ) → x ≡ y → keys_below int_cmp x xs ≡ true → keys_below int_cmp y ys ≡ true → ((r : ℤ) → is_row_among r (x ∷ xs) ≡ is_row_among r (y ∷ ys)) → (r : ℤ) → is_row_among r xs ≡ is_row_among r ys
same_rest x y xs ys one low lower same r = go (eq_by_cmp int_cmp r x) refl
  where
    go : (b : Bool) → eq_by_cmp int_cmp r x ≡ b → is_row_among r xs ≡ is_row_among r ys
    go true it =
        let is = same_key r x it in
        apart_below int_cmp r xs (subst (λ (z : ℤ). keys_below int_cmp z xs ≡ true) (sym is) low)
        ∙ sym (apart_below int_cmp r ys (subst (λ (z : ℤ). keys_below int_cmp z ys ≡ true) (sym (is ∙ one)) lower))
    go false other =
        sym (ap (λ (t : Bool). t || is_row_among r xs) other)
        ∙ same r
        ∙ ap (λ (t : Bool). t || is_row_among r ys) (ap (eq_by_cmp int_cmp r) (sym one) ∙ other)

pub same_lists : (xs ys : List ℤ) → keys_rise_by int_cmp xs ≡ true → keys_rise_by int_cmp ys ≡ true → ((r : ℤ) → is_row_among r xs ≡ is_row_among r ys) → xs ≡ ys
same_lists [] [] up down same = refl
same_lists [] (y ∷ ys) up down same = let wrong : false ≡ true = same y ∙ at_head y ys in cc
same_lists (x ∷ xs) [] up down same = let wrong : false ≡ true = sym (same x) ∙ at_head x xs in cc
same_lists (x ∷ xs) (y ∷ ys) up down same = go (same_lists xs ys p.1 q.1) (int_cmp x y) refl
  where
    p : (keys_below int_cmp x xs ≡ true) × (keys_rise_by int_cmp xs ≡ true)
    p = and_parts (keys_below int_cmp x xs) (keys_rise_by int_cmp xs) up

    q : (keys_below int_cmp y ys ≡ true) × (keys_rise_by int_cmp ys ≡ true)
    q = and_parts (keys_below int_cmp y ys) (keys_rise_by int_cmp ys) down

    go : (((r : ℤ) → is_row_among r xs ≡ is_row_among r ys) → xs ≡ ys) → (o : Ordering) → int_cmp x y ≡ o → x ∷ xs ≡ y ∷ ys
    go rest Less is = let wrong : false ≡ true = sym (not_among x y ys (ap is_lt is) q.0) ∙ sym (same x) ∙ at_head x xs in cc
    go rest Equal is =
        let one = same_key x y (ap is_eq is) in
        ap (λ (z : ℤ). z ∷ xs) one ∙ ap (λ (l : List ℤ). y ∷ l) (rest (same_rest x y xs ys one p.0 q.0 same))
    go rest Greater is =
        let less : is_lt (int_cmp y x) ≡ true = grind (arith, ints) in
        let wrong : false ≡ true = sym (not_among y x xs less p.0) ∙ same y ∙ at_head y ys in
        cc

-- ---- filters

-- one that a filter left passes its test, and was there before
pub among_filter : (test : ℤ → Bool) (r : ℤ) (rs : List ℤ) → is_row_among r (filter test rs) ≡ true → (test r ≡ true) × (is_row_among r rs ≡ true)
among_filter test r [] h = cc
among_filter test r (k ∷ ks) h = go (among_filter test r ks) (test k) refl h
  where
    later : (is_row_among r (filter test ks) ≡ true → (test r ≡ true) × (is_row_among r ks ≡ true)) → is_row_among r (filter test ks) ≡ true → (test r ≡ true) × (is_row_among r (k ∷ ks) ≡ true)
    later rest h = let parts = rest h in (parts.0, or_right (eq_by_cmp int_cmp r k) (is_row_among r ks) parts.1)

    go : (is_row_among r (filter test ks) ≡ true → (test r ≡ true) × (is_row_among r ks ≡ true)) → (b : Bool) → test k ≡ b → is_row_among r (cond b (k ∷ filter test ks) (filter test ks)) ≡ true
        → (test r ≡ true) × (is_row_among r (k ∷ ks) ≡ true)
    go rest true passes h = elim (or_cases (eq_by_cmp int_cmp r k) (is_row_among r (filter test ks)) h) [
      | inl here ↦ (ap test (same_key r k here) ∙ passes, or_left (eq_by_cmp int_cmp r k) (is_row_among r ks) here)
      | inr there ↦ later rest there
    ]
    go rest false fails h = later rest h

-- a fact of each of a list
pub each_among : (P : ℤ → Type 0) (r : ℤ) (rs : List ℤ) → AllByRecursion P rs → is_row_among r rs ≡ true → P r
each_among P r [] each h = cc
each_among P r (k ∷ ks) each h = elim (or_cases (eq_by_cmp int_cmp r k) (is_row_among r ks) h) [
  | inl here ↦ subst P (sym (same_key r k here)) each.0
  | inr there ↦ each_among P r ks each.1 there
]

module _ (test weaker : ℤ → Bool) (implies : (r : ℤ) → test r ≡ true → weaker r ≡ true) where
  -- fewer pass a test than one that it implies, where one of the list passes that alone
  pub one_less : (s : ℤ) → test s ≡ false → weaker s ≡ true → (rs : List ℤ) → is_row_among s rs ≡ true → length (filter test rs) + 1 ≤ length (filter weaker rs)
  one_less s fails passes [] h = cc
  one_less s fails passes (r ∷ rs) h = elim (or_cases (eq_by_cmp int_cmp s r) (is_row_among s rs) h) [
    | inl here ↦
        at_it (ap test (sym (same_key s r here)) ∙ fails) (ap weaker (sym (same_key s r here)) ∙ passes) (filters_fewer test weaker implies rs)
    | inr there ↦ go (test r) refl (weaker r) refl (one_less s fails passes rs there)
  ]
    where
      at_it : test r ≡ false → weaker r ≡ true → length (filter test rs) ≤ length (filter weaker rs)
          → length (cond (test r) (r ∷ filter test rs) (filter test rs)) + 1 ≤ length (cond (weaker r) (r ∷ filter weaker rs) (filter weaker rs))
      at_it not is rest =
          let one = ap (λ (b : Bool). length (cond b (r ∷ filter test rs) (filter test rs))) not in
          let two = ap (λ (b : Bool). length (cond b (r ∷ filter weaker rs) (filter weaker rs))) is in
          omega (arith, one, two, rest)

      go : (a : Bool) → test r ≡ a → (b : Bool) → weaker r ≡ b → length (filter test rs) + 1 ≤ length (filter weaker rs)
          → length (cond a (r ∷ filter test rs) (filter test rs)) + 1 ≤ length (cond b (r ∷ filter weaker rs) (filter weaker rs))
      go true is true so rest = omega (arith, rest)
      go true is false so rest = let wrong : false ≡ true = sym so ∙ implies r is in cc
      go false is true so rest = omega (arith, rest)
      go false is false so rest = rest

-- ---- rows as code holds them

abbrev pub key_cmp : RowKey → RowKey → Ordering
key_cmp a b = int_cmp a.0 b.0

abbrev pub keys_of : List RowKey → List ℤ
keys_of rs = map (λ (r : RowKey). r.0) rs

-- sorted ones have keys that rise
pub rise_from_sorted : (rs : List RowKey) → IsStrictlySortedBy key_cmp rs → keys_rise_by int_cmp (keys_of rs) ≡ true
unfolding IsStrictlySortedBy
rise_from_sorted [] h = refl
rise_from_sorted (r ∷ rs) h = and_from (keys_below int_cmp r.0 (keys_of rs)) (keys_rise_by int_cmp (keys_of rs)) (below rs h.0) (rise_from_sorted rs h.1)
  where
    below : (ks : List RowKey) → AllByRecursion (λ (k : RowKey). key_cmp r k ≡ Less) ks → keys_below int_cmp r.0 (keys_of ks) ≡ true
    below [] all = refl
    below (k ∷ ks) all = and_from (is_lt (int_cmp r.0 k.0)) (keys_below int_cmp r.0 (keys_of ks)) (ap is_lt all.0) (below ks all.1)

-- ones that stand twice taken out
kept_from : (r : ℤ) (k : RowKey) (ks : List RowKey) → is_row_among r (keys_of (dedup_from (eq_by_cmp key_cmp) k ks)) ≡ is_row_among r (keys_of (k ∷ ks))
kept_from r k [] = refl
kept_from r k (j ∷ js) = go (eq_by_cmp key_cmp j k) refl (kept_from r k js) (kept_from r j js)
  where
    go : (t : Bool) → eq_by_cmp key_cmp j k ≡ t → is_row_among r (keys_of (dedup_from (eq_by_cmp key_cmp) k js)) ≡ is_row_among r (keys_of (k ∷ js))
        → is_row_among r (keys_of (dedup_from (eq_by_cmp key_cmp) j js)) ≡ is_row_among r (keys_of (j ∷ js))
        → is_row_among r (keys_of (cond t (dedup_from (eq_by_cmp key_cmp) k js) (k ∷ dedup_from (eq_by_cmp key_cmp) j js))) ≡ is_row_among r (keys_of (k ∷ j ∷ js))
    go true same rest later =
        rest
        ∙ or_twice (eq_by_cmp int_cmp r k.0) (is_row_among r (keys_of js))
        ∙ ap (λ (z : ℤ). eq_by_cmp int_cmp r k.0 || (eq_by_cmp int_cmp r z || is_row_among r (keys_of js))) (sym (same_key j.0 k.0 same))
    go false other rest later = ap (λ (t : Bool). eq_by_cmp int_cmp r k.0 || t) later

pub kept_once : (r : ℤ) (ks : List RowKey) → is_row_among r (keys_of (dedup (eq_by_cmp key_cmp) ks)) ≡ is_row_among r (keys_of ks)
kept_once r [] = refl
kept_once r (k ∷ ks) = kept_from r k ks

-- by the rows themselves
pub among_rows : (r : ℤ) (ks : List RowKey) → is_row_among r (keys_of ks) ≡ list_any (λ (k : RowKey). eq_by_cmp int_cmp r k.0) ks
among_rows r [] = refl
among_rows r (k ∷ ks) = ap (λ (t : Bool). eq_by_cmp int_cmp r k.0 || t) (among_rows r ks)
