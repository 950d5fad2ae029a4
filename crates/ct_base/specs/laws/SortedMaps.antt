-- Entries of a map in memory, whose keys strictly rise, against the finite map that they are.
use Rattle.std.proofs.Common.{◌≡◌, Bool, true, false, cond, length, map, List, [], ◌∷◌, Some, None, refl, sym, ap, ◌∙◌}
use Rattle.std.specs.Prelude.{T, is_some}
use Rattle.std.specs.Option.{option_map}
use Rattle.std.specs.declared.cmp.Ordering.{Ordering}
use Rattle.std.specs.declared.cmp.Ordering.TheVariants.{Less, Equal, Greater}
use Rattle.std.specs.Ordering.{is_lt, is_eq, eq_by_cmp, match_ordering}
use Rattle.std.specs.Cmp.{IsTotalOrder}
use Rattle.std.specs.List.{AllByRecursion, IsDistinct}
use Rattle.std.specs.List.Sorted.{IsStrictlySortedBy}
use Rattle.std.specs.Map.{keys_of, lookup, remove_entry, set_value}
use Rattle.std.specs.BTreeMap.{insert_entry, is_at}
use Rattle.std.specs.FinMap.{FinMap, get, insert, remove, entries, find, put, is_sorted, from_sorted, entries-from_sorted, entries-insert, same_entries_map, same_map, get-from_sorted, get-insert, get-remove, empty, empty_of_len, len-entries}
use Rattle.std.proofs.lemmas.Cmp.{eq_by_cmp_equiv}
use Rattle.std.proofs.lemmas.Map.{lookup-remove_entry, lookup-set_value}
use Rattle.std.proofs.lemmas.Map.Keys.{sorted_head, sorted_tail}
use Rattle.ct_base.specs.laws.Bools.{T_from_true, T_both, T_first, T_second}

-- Keys and values seen as others, and an order of the keys that are seen.
module _ {J V K X : Type 0} (R : K → K → Ordering) (key : J → K) (value : V → X) where
  abbrev order : J → J → Ordering
  order a b = R (key a) (key b)

  abbrev pub seen : List (J × V) → List (K × X)
  seen es = map (λ e. (key e.0, value e.1)) es

  abbrev pub seen_map : List (J × V) → FinMap R X
  seen_map es = from_sorted (seen es)

  sorted_cons : (k : J) (v : V) (es : List (J × V)) → AllByRecursion (λ y. order k y ≡ Less) (keys_of es) → T (is_sorted R (seen es)) → T (is_sorted R (seen ((k, v) ∷ es)))
  sorted_cons k v [] all s = tt
  sorted_cons k v (e ∷ es) all s = T_both _ _ (T_both _ _ (T_from_true _ (ap is_lt all.0)) (T_first _ _ (sorted_cons k v es all.1 (T_second _ _ s)))) s

  sorted_seen : (es : List (J × V)) → IsStrictlySortedBy order (keys_of es) → T (is_sorted R (seen es))
  sorted_seen [] s = tt
  sorted_seen (e ∷ es) s = sorted_cons e.0 e.1 es (sorted_head order e.0 (keys_of es) s) (sorted_seen es (sorted_tail order e.0 (keys_of es) s))

  pub entries-seen : (es : List (J × V)) → IsStrictlySortedBy order (keys_of es) → entries (seen_map es) ≡ seen es
  entries-seen es s = entries-from_sorted R (seen es) (sorted_seen es s)

  pub get-seen : (es : List (J × V)) (q : K) → IsStrictlySortedBy order (keys_of es) → get (seen_map es) q ≡ find R q (seen es)
  get-seen es q s = get-from_sorted R (seen es) q (sorted_seen es s)

  -- of no entries
  pub seen-none : seen_map [] ≡ empty
  seen-none = empty_of_len (seen_map []) (len-entries (seen_map []) ∙ ap length (entries-from_sorted R [] tt))

  seen-insert_entry : (k : J) (v : V) (es : List (J × V)) → seen (insert_entry order es k v) ≡ put R (key k) (value v) (seen es)
  seen-insert_entry k v [] = refl
  seen-insert_entry k v (e ∷ es) =
      elim (order k e.0) as (λ o. seen (match_ordering o ((k, v) ∷ e ∷ es) ((e.0, v) ∷ es) (e ∷ insert_entry order es k v)) ≡ match_ordering o ((key k, value v) ∷ seen (e ∷ es)) ((key e.0, value v) ∷ seen es) ((key e.0, value e.1) ∷ put R (key k) (value v) (seen es))) [
        | Less ↦ refl
        | Equal ↦ refl
        | Greater ↦ ap (λ (x : List (K × X)). (key e.0, value e.1) ∷ x) (seen-insert_entry k v es)
      ]

  -- after a put
  pub seen-insert : IsTotalOrder R → (old new : List (J × V)) (k : J) (v : V) → IsStrictlySortedBy order (keys_of old) → IsStrictlySortedBy order (keys_of new) → new ≡ insert_entry order old k v
      → seen_map new ≡ insert (seen_map old) (key k) (value v)
  seen-insert total old new k v s t is = same_entries_map (seen_map new) (insert (seen_map old) (key k) (value v))
      (entries-seen new t ∙ ap seen is ∙ seen-insert_entry k v old ∙ sym (entries-insert total (seen_map old) (key k) (value v) ∙ ap (put R (key k) (value v)) (entries-seen old s)))

  -- a look-up
  find-seen : (k : K) (es : List (J × V)) → option_map value (lookup (is_at (λ x. R k (key x))) es) ≡ find R k (seen es)
  find-seen k [] = refl
  find-seen k (e ∷ es) =
      elim (is_eq (R k (key e.0))) as (λ b. option_map value (cond b (Some e.1) (lookup (is_at (λ x. R k (key x))) es)) ≡ cond b (Some (value e.1)) (find R k (seen es))) [
        | true ↦ refl
        | false ↦ find-seen k es
      ]

  pub lookup-seen : (es : List (J × V)) (k : K) → IsStrictlySortedBy order (keys_of es) → option_map value (lookup (is_at (λ x. R k (key x))) es) ≡ get (seen_map es) k
  lookup-seen es k s = find-seen k es ∙ sym (get-seen es k s)

  -- the keys that are seen differ
  apart : (k : J) (es : List (J × V)) → AllByRecursion (λ y. order k y ≡ Less) (keys_of es) → AllByRecursion (λ y. eq_by_cmp R (key k) y ≡ false) (keys_of (seen es))
  apart k [] all = tt
  apart k (e ∷ es) all = (ap is_eq all.0, apart k es all.1)

  keys_differ : (es : List (J × V)) → IsStrictlySortedBy order (keys_of es) → IsDistinct (eq_by_cmp R) (keys_of (seen es))
  unfolding IsDistinct
  keys_differ [] s = tt
  keys_differ (e ∷ es) s = (apart e.0 es (sorted_head order e.0 (keys_of es) s), keys_differ es (sorted_tail order e.0 (keys_of es) s))

  find_is_lookup : (q : K) (es : List (K × X)) → find R q es ≡ lookup (eq_by_cmp R q) es
  find_is_lookup q [] = refl
  find_is_lookup q (e ∷ es) = ap (cond (eq_by_cmp R q e.0) (Some e.1)) (find_is_lookup q es)

  seen-remove_entry : (k : K) (es : List (J × V)) → seen (remove_entry (is_at (λ x. R k (key x))) es) ≡ remove_entry (eq_by_cmp R k) (seen es)
  seen-remove_entry k [] = refl
  seen-remove_entry k (e ∷ es) =
      elim (is_eq (R k (key e.0))) as (λ b. seen (cond b es (e ∷ remove_entry (is_at (λ x. R k (key x))) es)) ≡ cond b (seen es) ((key e.0, value e.1) ∷ remove_entry (eq_by_cmp R k) (seen es))) [
        | true ↦ refl
        | false ↦ ap (λ (x : List (K × X)). (key e.0, value e.1) ∷ x) (seen-remove_entry k es)
      ]

  -- after a removal, where the order ties only keys that are one
  pub seen-remove : IsTotalOrder R → ((a b : K) → R a b ≡ Equal → a ≡ b) → (old new : List (J × V)) (k : K) → IsStrictlySortedBy order (keys_of old) → IsStrictlySortedBy order (keys_of new) → new ≡ remove_entry (is_at (λ x. R k (key x))) old
      → seen_map new ≡ remove (seen_map old) k
  seen-remove total exact old new k s t is = same_map total exact (seen_map new) (remove (seen_map old) k) (λ q.
      let laws = eq_by_cmp_equiv total in
      get-seen new q t ∙ find_is_lookup q (seen new)
      ∙ ap (lookup (eq_by_cmp R q)) (ap seen is ∙ seen-remove_entry k old)
      ∙ lookup-remove_entry laws (eq_by_cmp R k) (λ x y e. laws.congr k x y e) q (seen old) (keys_differ old s)
      ∙ ap (λ (b : Bool). cond b None (lookup (eq_by_cmp R q) (seen old))) (laws.symm k q)
      ∙ ap (cond (eq_by_cmp R q k) None) (sym (find_is_lookup q (seen old)) ∙ sym (get-seen old q s))
      ∙ sym (get-remove total (seen_map old) k q))

  seen-set_value_entry : (k : K) (v : V) (es : List (J × V)) → seen (set_value (is_at (λ x. R k (key x))) es v) ≡ set_value (eq_by_cmp R k) (seen es) (value v)
  seen-set_value_entry k v [] = refl
  seen-set_value_entry k v (e ∷ es) =
      elim (is_eq (R k (key e.0))) as (λ b. seen (cond b ((e.0, v) ∷ es) (e ∷ set_value (is_at (λ x. R k (key x))) es v)) ≡ cond b ((key e.0, value v) ∷ seen es) ((key e.0, value e.1) ∷ set_value (eq_by_cmp R k) (seen es) (value v))) [
        | true ↦ refl
        | false ↦ ap (λ (x : List (K × X)). (key e.0, value e.1) ∷ x) (seen-set_value_entry k v es)
      ]

  -- after another value is written where a key has one
  pub seen-set_value : IsTotalOrder R → ((a b : K) → R a b ≡ Equal → a ≡ b) → (old new : List (J × V)) (k : K) (v : V) → IsStrictlySortedBy order (keys_of old) → IsStrictlySortedBy order (keys_of new) → is_some (get (seen_map old) k) ≡ true → new ≡ set_value (is_at (λ x. R k (key x))) old v
      → seen_map new ≡ insert (seen_map old) k (value v)
  seen-set_value total exact old new k v s t there is = same_map total exact (seen_map new) (insert (seen_map old) k (value v)) (λ q.
      let laws = eq_by_cmp_equiv total in
      get-seen new q t ∙ find_is_lookup q (seen new)
      ∙ ap (lookup (eq_by_cmp R q)) (ap seen is ∙ seen-set_value_entry k v old)
      ∙ lookup-set_value laws (eq_by_cmp R k) (λ x y e. laws.congr k x y e) q (value v) (seen old) (ap is_some (sym (get-seen old k s ∙ find_is_lookup k (seen old))) ∙ there)
      ∙ ap (λ (b : Bool). cond b (Some (value v)) (lookup (eq_by_cmp R q) (seen old))) (laws.symm k q)
      ∙ ap (cond (eq_by_cmp R q k) (Some (value v))) (sym (find_is_lookup q (seen old)) ∙ sym (get-seen old q s))
      ∙ sym (get-insert total (seen_map old) k (value v) q))

-- ---- keys and values as they are

module _ {K X : Type 0} (R : K → K → Ordering) where
  seen_same : (es : List (K × X)) → seen R (λ k. k) (λ v. v) es ≡ es
  seen_same [] = refl
  seen_same (e ∷ es) = ap (λ (l : List (K × X)). e ∷ l) (seen_same es)

  map_same : (es : List (K × X)) → from_sorted {R = R} es ≡ seen_map R (λ k. k) (λ v. v) es
  map_same es = ap (from_sorted {R = R}) (sym (seen_same es))

  pub entries-sorted : (es : List (K × X)) → IsStrictlySortedBy R (keys_of es) → entries (from_sorted {R = R} es) ≡ es
  entries-sorted es s = ap entries (map_same es) ∙ entries-seen R (λ k. k) (λ v. v) es s ∙ seen_same es

  -- after a put
  pub sorted-insert : IsTotalOrder R → (old new : List (K × X)) (k : K) (v : X) → IsStrictlySortedBy R (keys_of old) → IsStrictlySortedBy R (keys_of new) → new ≡ insert_entry R old k v
      → from_sorted {R = R} new ≡ insert (from_sorted old) k v
  sorted-insert total old new k v s t is = map_same new ∙ seen-insert R (λ k. k) (λ v. v) total old new k v s t is ∙ ap (λ (m : FinMap R X). insert m k v) (sym (map_same old))

  -- of no entries
  pub sorted-none : from_sorted {X = X} {R = R} [] ≡ empty
  sorted-none = seen-none R (λ (k : K). k) (λ (v : X). v)
