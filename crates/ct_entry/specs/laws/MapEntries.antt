-- The entries of a finite map, and what it has at a key.
use Rattle.std.proofs.Common.{◌≡◌, Bool, true, false, cond, List, [], ◌∷◌, Some, refl, sym, ap, ◌∙◌, inl, inr}
use Rattle.std.specs.declared.cmp.Ordering.{Ordering}
use Rattle.std.specs.declared.cmp.Ordering.TheVariants.{Less, Equal, Greater}
use Rattle.std.specs.Ordering.{is_lt, is_eq, eq_by_cmp, ordering_reverse}
use Rattle.std.specs.Cmp.{IsTotalOrder}
use Rattle.std.proofs.lemmas.Cmp.{tied_itself}
use Rattle.std.specs.FinMap.{FinMap, IsAntisymmetric, get, entries, find, get-entries}
use Rattle.std.proofs.lemmas.Bool.{and_parts}
use Rattle.ct_keep.specs.laws.RisingKeys.{below, rises, entries_rise}
use Rattle.ct_base.specs.laws.Orders.{equal_from_test}
use Rattle.ct_entry.specs.Lists.{IsIn, AreApart}

-- no key is below itself, nor one that is below it
not_below : (o : Ordering) → is_lt o ≡ true → o ≡ Equal → ⊥
not_below Less h e = cc
not_below Equal h e = cc
not_below Greater h e = cc

turned : (o : Ordering) → is_lt o ≡ true → is_eq (ordering_reverse o) ≡ false
turned Less h = refl
turned Equal h = cc
turned Greater h = cc

module _ {K X : Type 0} (R : K → K → Ordering) where
  -- what is found is an entry
  pub find_in : IsAntisymmetric R → (q : K) (x : X) (es : List (K × X)) → find R q es ≡ Some x → IsIn (q, x) es
  find_in same q x [] is = cc
  find_in same q x (e ∷ es) is =
      elim (eq_by_cmp R q e.0) as (λ t. eq_by_cmp R q e.0 ≡ t → cond t (Some e.1) (find R q es) ≡ Some x → IsIn (q, x) (e ∷ es)) [
        | true ↦ λ t is. let v : x ≡ e.1 = cc in let k : q ≡ e.0 = same q e.0 (equal_from_test _ t) in inl (λ i. (k i, v i))
        | false ↦ λ t is. inr (find_in same q x es is)
      ] refl is

  pub in_below : (k : K) (e : K × X) (es : List (K × X)) → below R k es ≡ true → IsIn e es → is_lt (R k e.0) ≡ true
  in_below k e [] b h = absurd h
  in_below k e (y ∷ ys) b h =
      let b2 = and_parts (is_lt (R k y.0)) (below R k ys) b in
      elim h [ inl same ↦ ap (λ (z : K × X). is_lt (R k z.0)) same ∙ b2.0 | inr t ↦ in_below k e ys b2.1 t ]

  pub rises_apart : IsTotalOrder R → (es : List (K × X)) → rises R es ≡ true → AreApart es
  rises_apart o [] r = tt
  rises_apart o (e ∷ es) r =
      let r2 = and_parts (below R e.0 es) (rises R es) r in
      ((λ h. not_below _ (in_below e.0 e es r2.0 h) (tied_itself o e.0)), rises_apart o es r2.1)

  -- an entry is found by its key
  pub in_find : IsTotalOrder R → (e : K × X) (es : List (K × X)) → rises R es ≡ true → IsIn e es → find R e.0 es ≡ Some e.1
  in_find o e [] r h = absurd h
  in_find o e (y ∷ ys) r h =
      let r2 = and_parts (below R y.0 ys) (rises R ys) r in
      elim h [
        | inl same ↦ ap (λ (z : K × X). cond (eq_by_cmp R z.0 y.0) (Some y.1) (find R z.0 ys)) same ∙ ap (λ (t : Ordering). cond (is_eq t) (Some y.1) (find R y.0 ys)) (tied_itself o y.0) ∙ ap (λ (z : K × X). Some z.1) (sym same)
        | inr t ↦ ap (λ (b : Bool). cond b (Some y.1) (find R e.0 ys)) (ap is_eq (o.antisymm e.0 y.0) ∙ turned (R y.0 e.0) (in_below y.0 e ys r2.0 t)) ∙ in_find o e ys r2.1 t
      ]

module _ {K X : Type 0} {R : K → K → Ordering} where
  pub get_in : IsAntisymmetric R → (m : FinMap R X) (q : K) (x : X) → get m q ≡ Some x → IsIn (q, x) (entries m)
  get_in same m q x is = find_in R same q x (entries m) (sym (get-entries m q) ∙ is)

  pub entries_apart : IsTotalOrder R → (m : FinMap R X) → AreApart (entries m)
  entries_apart o m = rises_apart R o (entries m) (entries_rise R m)

  pub in_get : IsTotalOrder R → (m : FinMap R X) (e : K × X) → IsIn e (entries m) → get m e.0 ≡ Some e.1
  in_get o m e h = get-entries m e.0 ∙ in_find R o e (entries m) (entries_rise R m) h
