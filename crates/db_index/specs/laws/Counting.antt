-- How many entries of a map pass a test, after one is put.
use Rattle.std.proofs.Common.{◌≡◌, ℕ, ◌+◌, Bool, true, false, cond, List, [], ◌∷◌, length, Option, Some, None, refl, ap, ◌∙◌, arith}
use Rattle.std.specs.Prelude.{filter}
use Rattle.std.specs.declared.cmp.Ordering.{Ordering}
use Rattle.std.specs.declared.cmp.Ordering.TheVariants.{Less, Equal, Greater}
use Rattle.std.specs.Ordering.{is_lt}
use Rattle.std.specs.Cmp.{IsTotalOrder}
use Rattle.std.specs.FinMap.{FinMap, get, insert, entries, find, put, entries-insert, get-entries}
use Rattle.std.proofs.lemmas.Bool.{and_parts, and_from}
use Rattle.ct_keep.specs.laws.RisingKeys.{below, rises, entries_rise}
use Rattle.ct_keep.specs.laws.FoundKeys.{none_below}
use Rattle.ct_base.specs.laws.Orders.{less_from_test as less}

pub one : Bool → ℕ
one b = cond b 1 0

pub one_true : one true ≡ 1
unfolding one
one_true = refl

pub one_false : one false ≡ 0
unfolding one
one_false = refl

module _ {K X : Type 0} (R : K → K → Ordering) (p : X → Bool) where
  abbrev pub count : List (K × X) → ℕ
  count es = length (filter (λ (e : K × X). p e.1) es)

  abbrev pub counted : Option X → ℕ
  counted None = 0
  counted (Some x) = one (p x)

  pub count-cons : (k : K) (x : X) (es : List (K × X)) → count ((k, x) ∷ es) ≡ one (p x) + count es
  unfolding one
  count-cons k x es = go (p x)
    where
      go : (b : Bool) → length (cond b ((k, x) ∷ filter (λ (e : K × X). p e.1) es) (filter (λ (e : K × X). p e.1) es)) ≡ cond b 1 0 + count es
      go true = omega arith
      go false = omega arith

  below_lower : IsTotalOrder R → (k x : K) (es : List (K × X)) → R k x ≡ Less → below R x es ≡ true → below R k es ≡ true
  below_lower o k x [] l h = refl
  below_lower o k x (e ∷ es) l h =
      let b = and_parts (is_lt (R x e.0)) (below R x es) h in
      and_from (is_lt (R k e.0)) (below R k es) (ap is_lt (o.trans k x e.0 l (less (R x e.0) b.0))) (below_lower o k x es l b.1)

  -- the entry that was there counts no more
  count_put : IsTotalOrder R → (k : K) (v : X) (es : List (K × X)) → rises R es ≡ true → count (put R k v es) + counted (find R k es) ≡ count es + one (p v)
  count_put o k v [] h = let c = count-cons k v [] in omega (arith, c)
  count_put o k v (e ∷ es) h =
      let b = and_parts (below R e.0 es) (rises R es) h in
      at_head (R k e.0) refl b.0 (count_put o k v es b.1)
    where
      at_head : (r : Ordering) → R k e.0 ≡ r → below R e.0 es ≡ true → count (put R k v es) + counted (find R k es) ≡ count es + one (p v)
          → count (put R k v (e ∷ es)) + counted (find R k (e ∷ es)) ≡ count (e ∷ es) + one (p v)
      at_head Less is low rest =
          let gone : find R k es ≡ None = none_below R k es (below_lower o k e.0 es is low) in
          let c = count-cons k v (e ∷ es) in
          rw (is, gone) (omega (arith, c))
      at_head Equal is low rest =
          let c = count-cons e.0 v es in
          let d = count-cons e.0 e.1 es in
          rw is (omega (arith, c, d))
      at_head Greater is low rest =
          let c = count-cons e.0 e.1 (put R k v es) in
          let d = count-cons e.0 e.1 es in
          rw is (omega (arith, c, d, rest))

  -- after an insertion
  pub count_insert : IsTotalOrder R → (m : FinMap R X) (k : K) (v : X)
      → length (filter (λ (e : K × X). p e.1) (entries (insert m k v))) + counted (get m k) ≡ length (filter (λ (e : K × X). p e.1) (entries m)) + one (p v)
  count_insert o m k v =
      ap (λ (es : List (K × X)). count es + counted (get m k)) (entries-insert o m k v)
      ∙ ap (λ (x : Option X). count (put R k v (entries m)) + counted x) (get-entries m k)
      ∙ count_put o k v (entries m) (entries_rise R m)
