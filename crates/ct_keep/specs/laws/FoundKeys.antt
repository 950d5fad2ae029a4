-- What is found among entries whose keys strictly rise, in any order.
use Rattle.std.proofs.Common.{◌≡◌, ℕ, zero, suc, ◌<◌, Bool, true, false, cond, List, [], ◌∷◌, length, get_or, Some, None, refl, sym, ap, subst, ◌∙◌, arith}
use Rattle.std.specs.Prelude.{All}
use Rattle.std.specs.declared.cmp.Ordering.{Ordering}
use Rattle.std.specs.declared.cmp.Ordering.TheVariants.{Less, Greater}
use Rattle.std.specs.Ordering.{is_lt, is_eq, eq_by_cmp, ordering_reverse}
use Rattle.std.specs.Cmp.{IsTotalOrder}
use Rattle.std.proofs.lemmas.Cmp.{tied_itself}
use Rattle.std.specs.List.{AllByRecursion, Contains}
use Rattle.std.proofs.lemmas.List.Elements.{All-from_recursion, recursion_from_All, Contains-append_right}
use Rattle.std.specs.FinMap.{FinMap, get, entries, find, get-entries, IsAntisymmetric}
use Rattle.ct_base.specs.laws.Orders.{less_from_test, no_tie, equal_from_test}
use Rattle.std.proofs.lemmas.Bool.{and_parts, and_from}
use Rattle.ct_keep.specs.laws.RisingKeys.{below, rises, entries_rise}

module _ {K X : Type 0} (R : K → K → Ordering) where
  -- a key below all isn't found
  pub none_below : (k : K) (es : List (K × X)) → below R k es ≡ true → find R k es ≡ None
  none_below k [] h = refl
  none_below k (e ∷ es) h =
      let b = and_parts (is_lt (R k e.0)) (below R k es) h in
      ap (λ (t : Bool). cond t (Some e.1) (find R k es)) (no_tie (R k e.0) b.0) ∙ none_below k es b.1

  -- what ties with a key is below what that is below
  pub below_tied : IsTotalOrder R → (q k : K) (es : List (K × X)) → eq_by_cmp R q k ≡ true → below R k es ≡ true → below R q es ≡ true
  below_tied o q k [] t h = refl
  below_tied o q k (e ∷ es) t h =
      let b = and_parts (is_lt (R k e.0)) (below R k es) h in
      and_from _ _ (ap is_lt (o.congr q k e.0 (equal_from_test (R q k) t)) ∙ b.0) (below_tied o q k es t b.1)

  pub found_listed : IsTotalOrder R → (P : K × X → Type 0) (es : List (K × X)) → rises R es ≡ true → ((k : K) (x : X) → find R k es ≡ Some x → P (k, x)) → AllByRecursion P es
  found_listed o P [] rise each = tt
  found_listed o P (e ∷ es) rise each =
      let b = and_parts (below R e.0 es) (rises R es) rise in (
        each e.0 e.1 (ap (λ (r : Ordering). cond (is_eq r) (Some e.1) (find R e.0 es)) (tied_itself o e.0)),
        found_listed o P es b.1 (λ k x is. later k x b.0 is (eq_by_cmp R k e.0) refl),
      )
    where
      later : (k : K) (x : X) → below R e.0 es ≡ true → find R k es ≡ Some x → (t : Bool) → eq_by_cmp R k e.0 ≡ t → P (k, x)
      later k x low is true tie = let none : None ≡ Some x = sym (none_below k es (below_tied o k e.0 es tie low)) ∙ is in cc
      later k x low is false tie = each k x (ap (λ (t : Bool). cond t (Some e.1) (find R k es)) tie ∙ is)

  -- what holds of whatever a map has at a key holds of its entries
  pub all_entries : IsTotalOrder R → (P : K × X → Type 0) (m : FinMap R X) → ((k : K) (x : X) → get m k ≡ Some x → P (k, x)) → All P (entries m)
  all_entries o P m each = All-from_recursion P (entries m) (found_listed o P (entries m) (entries_rise R m) (λ k x is. each k x (get-entries m k ∙ is)))

  -- a fact of each key, by the entries one after the other
  abbrev pub AllKeys : (K → Type 0) → List (K × X) → Type 0
  AllKeys P es = AllByRecursion (λ e. P e.0) es

  -- what holds of each key that has something
  pub all_keys : IsTotalOrder R → (P : K → Type 0) (m : FinMap R X) → ((k : K) (x : X) → get m k ≡ Some x → P k) → AllKeys P (entries m)
  all_keys o P m each = recursion_from_All (λ e. P e.0) (entries m) (all_entries o (λ e. P e.0) m each)

  -- each pair of a list that rises is found at its key
  pub pair_found : IsTotalOrder R → (es : List (K × X)) (e : K × X) → rises R es ≡ true → Contains es e → find R e.0 es ≡ Some e.1
  pair_found o es e up there = go es there.0 up there.1 there.2
    where
      higher : (k : K) (es : List (K × X)) (i : ℕ) → below R k es ≡ true → i < length es → get_or es i e ≡ e → is_lt (R k e.0) ≡ true
      higher k [] i h l is = absurd (omega arith)
      higher k (x ∷ xs) zero h l is = subst (λ (y : K × X). is_lt (R k y.0) ≡ true) is (and_parts (is_lt (R k x.0)) (below R k xs) h).0
      higher k (x ∷ xs) (suc i) h l is = higher k xs i (and_parts (is_lt (R k x.0)) (below R k xs) h).1 (omega arith) is

      go : (es : List (K × X)) (i : ℕ) → rises R es ≡ true → i < length es → get_or es i e ≡ e → find R e.0 es ≡ Some e.1
      go [] i h l is = absurd (omega arith)
      go (x ∷ xs) zero h l is =
          ap (λ (y : K × X). cond (eq_by_cmp R e.0 y.0) (Some y.1) (find R e.0 xs)) is
          ∙ ap (λ (r : Ordering). cond (is_eq r) (Some e.1) (find R e.0 xs)) (tied_itself o e.0)
      go (x ∷ xs) (suc i) h l is =
          let b = and_parts (below R x.0 xs) (rises R xs) h in
          let low : R x.0 e.0 ≡ Less = less_from_test (R x.0 e.0) (higher x.0 xs i b.0 (omega arith) is) in
          let high : R e.0 x.0 ≡ Greater = o.antisymm e.0 x.0 ∙ ap ordering_reverse low in
          ap (λ (r : Ordering). cond (is_eq r) (Some x.1) (find R e.0 xs)) high ∙ go xs i b.1 (omega arith) is

  -- what is found at a key is a pair of the list, where only keys that are one tie
  pub found_pair : IsAntisymmetric R → (es : List (K × X)) (k : K) (x : X) → find R k es ≡ Some x → Contains es (k, x)
  found_pair exact [] k x is = cc
  found_pair exact (e ∷ es) k x is = go (eq_by_cmp R k e.0) refl is (λ rest. Contains-append_right (e ∷ []) es (k, x) (found_pair exact es k x rest))
    where
      go : (b : Bool) → eq_by_cmp R k e.0 ≡ b → cond b (Some e.1) (find R k es) ≡ Some x → (find R k es ≡ Some x → Contains (e ∷ es) (k, x)) → Contains (e ∷ es) (k, x)
      go true one here rest =
          let name : k ≡ e.0 = exact k e.0 (equal_from_test (R k e.0) one) in
          let value : e.1 ≡ x = cc in
          (0, omega arith, λ j. (sym name j, value j))
      go false two there rest = rest there
