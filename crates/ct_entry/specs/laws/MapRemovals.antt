-- The entries of a finite map without one of its keys, in any order of keys.
use Rattle.std.proofs.Common.{◌≡◌, Bool, true, false, cond, List, [], ◌∷◌, map, Option, Some, None, refl, sym, ap, ◌∙◌}
use Rattle.std.specs.Prelude.{filter, not}
use Rattle.std.specs.declared.cmp.Ordering.{Ordering}
use Rattle.std.specs.Ordering.{is_lt, eq_by_cmp}
use Rattle.std.specs.Cmp.{IsTotalOrder}
use Rattle.std.specs.FinMap.{FinMap, IsAntisymmetric, get, remove, entries, find, from_sorted, get-entries, get-remove, get-from_sorted, entries-from_sorted, same_map}
use Rattle.std.proofs.lemmas.Bool.{and_parts, and_from}
use Rattle.std.proofs.lemmas.Cmp.{eq_by_cmp_equiv}
use Rattle.ct_base.specs.laws.Bools.{T_from_true}
use Rattle.ct_base.specs.laws.Orders.{equal_from_test}
use Rattle.ct_keep.specs.laws.RisingKeys.{below, rises, sorted_from_rises, entries_rise}

module _ {K X : Type 0} (R : K → K → Ordering) (total : IsTotalOrder R) (exact : IsAntisymmetric R) where
  below_filter : (p : K → Bool) (k : K) (es : List (K × X)) → below R k es ≡ true → below R k (filter (λ e. p e.0) es) ≡ true
  below_filter p k [] h = refl
  below_filter p k (e ∷ es) h =
      let b = and_parts (is_lt (R k e.0)) (below R k es) h in
      at_head (p e.0) b.0 (below_filter p k es b.1)
    where
      at_head : (t : Bool) → is_lt (R k e.0) ≡ true → below R k (filter (λ e. p e.0) es) ≡ true → below R k (cond t (e ∷ filter (λ e. p e.0) es) (filter (λ e. p e.0) es)) ≡ true
      at_head true l rest = and_from _ _ l rest
      at_head false l rest = rest

  rises_filter : (p : K → Bool) (es : List (K × X)) → rises R es ≡ true → rises R (filter (λ e. p e.0) es) ≡ true
  rises_filter p [] h = refl
  rises_filter p (e ∷ es) h =
      let b = and_parts (below R e.0 es) (rises R es) h in
      at_head (p e.0) (below_filter p e.0 es b.0) (rises_filter p es b.1)
    where
      at_head : (t : Bool) → below R e.0 (filter (λ e. p e.0) es) ≡ true → rises R (filter (λ e. p e.0) es) ≡ true → rises R (cond t (e ∷ filter (λ e. p e.0) es) (filter (λ e. p e.0) es)) ≡ true
      at_head true l rest = and_from _ _ l rest
      at_head false l rest = rest

  -- a look-up among the entries whose keys pass a test
  find_filter : (p : K → Bool) (q : K) (es : List (K × X)) → find R q (filter (λ e. p e.0) es) ≡ cond (p q) (find R q es) None
  find_filter p q [] = none (p q)
    where
      none : (b : Bool) → ◌≡◌ {A = Option X} None (cond b None None)
      none true = refl
      none false = refl
  find_filter p q (e ∷ es) = at_head (eq_by_cmp R q e.0) refl (p e.0) refl (find_filter p q es)
    where
      at_head : (t : Bool) → eq_by_cmp R q e.0 ≡ t → (b : Bool) → p e.0 ≡ b → find R q (filter (λ e. p e.0) es) ≡ cond (p q) (find R q es) None
          → find R q (cond b (e ∷ filter (λ e. p e.0) es) (filter (λ e. p e.0) es)) ≡ cond (p q) (cond (eq_by_cmp R q e.0) (Some e.1) (find R q es)) None
      at_head true t true b rest = let passes : p q ≡ true = ap p (exact q e.0 (equal_from_test (R q e.0) t)) ∙ b in rw (t, passes) refl
      at_head true t false b rest = let fails : p q ≡ false = ap p (exact q e.0 (equal_from_test (R q e.0) t)) ∙ b in rest ∙ rw fails refl
      at_head false t true b rest = rw t rest
      at_head false t false b rest = rw t rest

  pub entries_without : (m : FinMap R X) (k : K) → entries (remove m k) ≡ filter (λ e. not (eq_by_cmp R k e.0)) (entries m)
  entries_without m k =
      let left : List (K × X) = filter (λ e. not (eq_by_cmp R k e.0)) (entries m) in
      let sorted = T_from_true _ (sorted_from_rises R left (rises_filter (λ x. not (eq_by_cmp R k x)) (entries m) (entries_rise R m))) in
      ap entries (same_map total exact (remove m k) (from_sorted left) (λ q.
      get-remove total m k q ∙ turned (eq_by_cmp R q k) (eq_by_cmp R k q) (get m q) ((eq_by_cmp_equiv total).symm q k)
      ∙ sym (get-from_sorted R left q sorted ∙ find_filter (λ x. not (eq_by_cmp R k x)) q (entries m) ∙ ap (λ (o : Option X). cond (not (eq_by_cmp R k q)) o None) (sym (get-entries m q)))))
      ∙ entries-from_sorted R left sorted
    where
      turned : (a b : Bool) (o : Option X) → a ≡ b → cond a None o ≡ cond (not b) o None
      turned true true o e = refl
      turned false false o e = refl
      turned true false o e = cc
      turned false true o e = cc

  keys_filter : (p : K → Bool) (es : List (K × X)) → map (λ e. e.0) (filter (λ e. p e.0) es) ≡ filter p (map (λ e. e.0) es)
  keys_filter p [] = refl
  keys_filter p (e ∷ es) = at_head (p e.0) (keys_filter p es)
    where
      at_head : (b : Bool) → map (λ e. e.0) (filter (λ e. p e.0) es) ≡ filter p (map (λ e. e.0) es)
          → map (λ e. e.0) (cond b (e ∷ filter (λ e. p e.0) es) (filter (λ e. p e.0) es)) ≡ cond b (e.0 ∷ filter p (map (λ e. e.0) es)) (filter p (map (λ e. e.0) es))
      at_head true rest = ap (λ (ks : List K). e.0 ∷ ks) rest
      at_head false rest = rest

  -- the keys are those of before but this one
  pub keys_without : (m : FinMap R X) (k : K) → map (λ e. e.0) (entries (remove m k)) ≡ filter (λ x. not (eq_by_cmp R k x)) (map (λ e. e.0) (entries m))
  keys_without m k = ap (λ (es : List (K × X)). map (λ e. e.0) es) (entries_without m k) ∙ keys_filter (λ x. not (eq_by_cmp R k x)) (entries m)
