-- Lists of pairs whose names rise in the order of keys: what they have at a name, and what is kept of them.
use Rattle.std.proofs.Common.{◌≡◌, ℕ, Bool, true, false, cond, List, [], ◌∷◌, map, Some, None, refl, sym, ap, ◌∙◌, arith}
use Rattle.std.specs.Prelude.{◌||◌, filter, is_some, T}
use Rattle.std.specs.List.{Contains}
use Rattle.std.specs.Map.{lookup}
use Rattle.std.specs.declared.cmp.Ordering.{Ordering}
use Rattle.std.specs.declared.cmp.Ordering.TheVariants.{Equal}
use Rattle.std.specs.Ordering.{is_lt, is_eq, eq_by_cmp}
use Rattle.std.specs.Cmp.{IsTotalOrder}
use Rattle.std.specs.FinMap.{FinMap, find, from_sorted, is_sorted, get-from_sorted, entries-from_sorted, entries, same_map}
use Rattle.std.proofs.lemmas.List.Elements.{Contains-append_right}
use Rattle.std.proofs.lemmas.Map.Entries.{option_filter}
use Rattle.std.proofs.lemmas.Bool.{and_parts, and_from}
use Rattle.ct_base.specs.laws.Bools.{T_from_true}
use Rattle.ct_keep.specs.laws.RisingKeys.{below, rises, sorted_from_rises}
use Rattle.ct_entry.specs.Keys.{same_list}
use Rattle.ct_entry.specs.Each.{is_any_of}
use Rattle.ct_entry.specs.laws.Keys.{list_from_same}
use Rattle.ct_keep.specs.laws.FoundKeys.{none_below, below_tied}
pub use Rattle.ct_keep.specs.laws.FoundKeys.{pair_found}
use Rattle.ct_entry.specs.Listings.{key_order}
use Rattle.ct_entry.specs.laws.Owners.{key_order_total, key_order_tie}

-- ---- in any order

module _ {K X : Type 0} (R : K → K → Ordering) where
  pub below_filter : (p : K × X → Bool) (k : K) (es : List (K × X)) → below R k es ≡ true → below R k (filter p es) ≡ true
  below_filter p k [] h = refl
  below_filter p k (e ∷ es) h =
      let b = and_parts (is_lt (R k e.0)) (below R k es) h in
      elim (p e) as (λ t. below R k (cond t (e ∷ filter p es) (filter p es)) ≡ true) [ true ↦ and_from _ _ b.0 (below_filter p k es b.1) | false ↦ below_filter p k es b.1 ]

  -- what is kept of a list that rises does so
  pub rises_filter : (p : K × X → Bool) (es : List (K × X)) → rises R es ≡ true → rises R (filter p es) ≡ true
  rises_filter p [] h = refl
  rises_filter p (e ∷ es) h =
      let b = and_parts (below R e.0 es) (rises R es) h in
      elim (p e) as (λ t. rises R (cond t (e ∷ filter p es) (filter p es)) ≡ true) [ true ↦ and_from _ _ (below_filter p e.0 es b.0) (rises_filter p es b.1) | false ↦ rises_filter p es b.1 ]

  -- at a key is what was there, where it is kept
  pub find-filter : IsTotalOrder R → (p : X → Bool) (es : List (K × X)) (k : K) → rises R es ≡ true → find R k (filter (λ e. p e.1) es) ≡ option_filter p (find R k es)
  find-filter o p [] k h = refl
  find-filter o p (e ∷ es) k h =
      let b = and_parts (below R e.0 es) (rises R es) h in
      at_head (eq_by_cmp R k e.0) refl b.0 (find-filter o p es k b.1)
    where
      at_head : (t : Bool) → eq_by_cmp R k e.0 ≡ t → below R e.0 es ≡ true → find R k (filter (λ e. p e.1) es) ≡ option_filter p (find R k es)
          → find R k (cond (p e.1) (e ∷ filter (λ e. p e.1) es) (filter (λ e. p e.1) es)) ≡ option_filter p (cond t (Some e.1) (find R k es))
      at_head true tie low rest = go (p e.1)
        where
          gone : find R k (filter (λ e. p e.1) es) ≡ None
          gone = none_below R k (filter (λ e. p e.1) es) (below_filter (λ e. p e.1) k es (below_tied R o k e.0 es tie low))

          go : (b : Bool) → find R k (cond b (e ∷ filter (λ e. p e.1) es) (filter (λ e. p e.1) es)) ≡ cond b (Some e.1) None
          go true = ap (λ (t : Bool). cond t (Some e.1) (find R k (filter (λ e. p e.1) es))) tie
          go false = gone
      at_head false apart low rest = go (p e.1)
        where
          go : (b : Bool) → find R k (cond b (e ∷ filter (λ e. p e.1) es) (filter (λ e. p e.1) es)) ≡ option_filter p (find R k es)
          go true = ap (λ (t : Bool). cond t (Some e.1) (find R k (filter (λ e. p e.1) es))) apart ∙ rest
          go false = rest

-- ---- names in the order of keys

module _ {X : Type 0} where
  pub lookup-find : (i : List ℕ) (es : List (List ℕ × X)) → lookup (same_list i) es ≡ find key_order i es
  lookup-find i [] = refl
  lookup-find i (e ∷ es) =
      ap (λ (b : Bool). cond b (Some e.1) (lookup (same_list i) es)) (sym (key_order_tie i e.0))
      ∙ ap (cond (eq_by_cmp key_order i e.0) (Some e.1)) (lookup-find i es)

  -- each pair is what the list has at its name
  pub pair_at : (es : List (List ℕ × X)) (e : List ℕ × X) → rises key_order es ≡ true → Contains es e → lookup (same_list e.0) es ≡ Some e.1
  pair_at es e up there = lookup-find e.0 es ∙ pair_found key_order key_order_total es e up there

  -- what the list has at a name is one of its pairs
  pub contains_at : (es : List (List ℕ × X)) (i : List ℕ) (x : X) → lookup (same_list i) es ≡ Some x → Contains es (i, x)
  contains_at [] i x is = cc
  contains_at (e ∷ es) i x is = go (same_list i e.0) refl is (λ rest. Contains-append_right (e ∷ []) es (i, x) (contains_at es i x rest))
    where
      go : (b : Bool) → same_list i e.0 ≡ b → cond b (Some e.1) (lookup (same_list i) es) ≡ Some x → (lookup (same_list i) es ≡ Some x → Contains (e ∷ es) (i, x)) → Contains (e ∷ es) (i, x)
      go true one here rest =
          let name : i ≡ e.0 = list_from_same i e.0 one in
          let value : e.1 ≡ x = cc in
          (0, omega arith, λ j. (sym name j, value j))
      go false two there rest = rest there

  -- the names of the list are those at which it has something
  pub among_names : (i : List ℕ) (es : List (List ℕ × X)) → is_any_of i (map (λ e. e.0) es) ≡ is_some (lookup (same_list i) es)
  among_names i [] = refl
  among_names i (e ∷ es) = go (same_list i e.0) (among_names i es)
    where
      go : (b : Bool) → is_any_of i (map (λ e. e.0) es) ≡ is_some (lookup (same_list i) es) → (b || is_any_of i (map (λ e. e.0) es)) ≡ is_some (cond b (Some e.1) (lookup (same_list i) es))
      go true rest = refl
      go false rest = rest

  -- lists that rise and have the same at each name are one
  pub same_pairs : (xs ys : List (List ℕ × X)) → rises key_order xs ≡ true → rises key_order ys ≡ true → ((i : List ℕ) → lookup (same_list i) xs ≡ lookup (same_list i) ys) → xs ≡ ys
  same_pairs xs ys up down same =
      let a : T (is_sorted key_order xs) = T_from_true _ (sorted_from_rises key_order xs up) in
      let b : T (is_sorted key_order ys) = T_from_true _ (sorted_from_rises key_order ys down) in
      let F : FinMap key_order X = from_sorted xs in
      let G : FinMap key_order X = from_sorted ys in
      let one : F ≡ G = same_map key_order_total exact F G (λ i. get-from_sorted key_order xs i a ∙ sym (lookup-find i xs) ∙ same i ∙ lookup-find i ys ∙ sym (get-from_sorted key_order ys i b)) in
      sym (entries-from_sorted key_order xs a) ∙ ap entries one ∙ entries-from_sorted key_order ys b
    where
      exact : (i j : List ℕ) → key_order i j ≡ Equal → i ≡ j
      exact i j e = list_from_same i j (sym (key_order_tie i j) ∙ ap is_eq e)
