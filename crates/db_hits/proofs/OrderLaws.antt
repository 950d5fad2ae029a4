-- Rows compare by keys of which each orders by something new as they do by all keys; and an order of rows doesn't depend on the order that they had before.
use Rattle.std.proofs.Common.{◌≡◌, ◌<◌, ◌≤◌, ◌+◌, ℕ, Bool, true, false, List, [], ◌∷◌, ◌++◌, length, map, get_or, drop, refl, sym, ap, ◌∙◌, append_assoc, append-nil, IsPermutation}
use Rattle.std.specs.Prelude.{◌||◌}
use Rattle.std.specs.List.{list_any}
use Rattle.std.specs.declared.cmp.Ordering.{Ordering}
use Rattle.std.specs.declared.cmp.Ordering.TheVariants.{Less, Equal, Greater}
use Rattle.std.specs.Ordering.{ordering_reverse, ordering_then}
use Rattle.std.proofs.lemmas.Bool.{eqb-true}
use Rattle.std.proofs.lemmas.List.{drop_all}
use Rattle.std.proofs.lemmas.List.Sorted.{IsPermutation-trans}
use Rattle.ct_base.specs.laws.Lists.{drop_next}
use Rattle.rs_result.specs.declared.descriptors.HitKey.{HitKey}
use Rattle.rs_result.specs.declared.rows.By.{By}
use Rattle.rs_result.specs.declared.rows.By.TheVariants.{Score, Column}
use Rattle.rs_result.specs.declared.rows.OrderBy.{OrderBy}
use Rattle.rs_result.specs.Comparing.{Ranked, by_cmp, key_cmp, rank_cmp, ranked, turned}
use Rattle.rs_result.specs.Orders.{AreInOrder, HaveOwnKeys}
use Rattle.rs_result.specs.Sorting.{sorted_by}
use Rattle.rs_result.specs.laws.Orders.{row_cmp_total, rows_apart}
use Rattle.rs_result.specs.laws.Sorting.{one_order}
use Rattle.db_hits.specs.Rows.{OrderAlike, Row, key_by, same_by}

-- ---- keys that order by what one before them does

same_by_is : (b c : By) → same_by b c ≡ true → b ≡ c
same_by_is Score Score same = refl
same_by_is Score (Column place) same = absurd (cc)
same_by_is (Column place) Score same = absurd (cc)
same_by_is (Column place) (Column other) same = ap Column (eqb-true place other same)

tie_turned : (down : Bool) (o : Ordering) → o ≡ Equal → turned down o ≡ Equal
tie_turned true o tie = ap ordering_reverse tie
tie_turned false o tie = tie

tie_back : (down : Bool) (o : Ordering) → turned down o ≡ Equal → o ≡ Equal
tie_back true Less tie = absurd (cc)
tie_back true Equal tie = refl
tie_back true Greater tie = absurd (cc)
tie_back false o tie = tie

module _ (a b : Ranked) where
  -- two rows that tie by a key tie by each other that orders by the same
  both_tie : (k key : OrderBy) → same_by k.by key.by ≡ true → key_cmp k a b ≡ Equal → key_cmp key a b ≡ Equal
  both_tie k key same tie =
      tie_turned key.down (by_cmp key.by a b)
      (ap (λ (by : By). by_cmp by a b) (sym (same_by_is k.by key.by same)) ∙ tie_back k.down (by_cmp k.by a b) tie)

  -- a key by which they tie says nothing, wherever it stands
  tie_left_out : (keys rest : List OrderBy) (key : OrderBy) → key_cmp key a b ≡ Equal → rank_cmp (keys ++ key ∷ rest) a b ≡ rank_cmp (keys ++ rest) a b
  tie_left_out [] rest key tie = ap (λ (o : Ordering). ordering_then o (rank_cmp rest a b)) tie
  tie_left_out (k ∷ keys) rest key tie = ap (ordering_then (key_cmp k a b)) (tie_left_out keys rest key tie)

  again : (keys rest : List OrderBy) (key : OrderBy) → list_any (λ k. same_by k.by key.by) keys ≡ true → rank_cmp (keys ++ rest) a b ≡ rank_cmp (keys ++ key ∷ rest) a b
  again [] rest key has = absurd (cc)
  again (k ∷ keys) rest key has = go (same_by k.by key.by) refl (key_cmp k a b) refl has (again keys rest key)
    where
      go : (s : Bool) → same_by k.by key.by ≡ s → (o : Ordering) → key_cmp k a b ≡ o → (s || list_any (λ k. same_by k.by key.by) keys) ≡ true
          → (list_any (λ k. same_by k.by key.by) keys ≡ true → rank_cmp (keys ++ rest) a b ≡ rank_cmp (keys ++ key ∷ rest) a b)
          → ordering_then o (rank_cmp (keys ++ rest) a b) ≡ ordering_then o (rank_cmp (keys ++ key ∷ rest) a b)
      go s same Less is has rest_is = refl
      go s same Greater is has rest_is = refl
      go true same Equal is has rest_is = sym (tie_left_out keys rest key (both_tie k key same is))
      go false same Equal is has rest_is = rest_is has

pub key_known : (keys : List OrderBy) (key : OrderBy) → list_any (λ k. same_by k.by key.by) keys ≡ true → (rest : List OrderBy) → OrderAlike (keys ++ rest) (keys ++ key ∷ rest)
key_known keys key has rest a b = again a b keys rest key has

pub key_put : (keys more : List OrderBy) (key : OrderBy) → more ≡ keys ++ key ∷ [] → (rest : List OrderBy) → OrderAlike (more ++ rest) (keys ++ key ∷ rest)
key_put keys more key pushed rest a b =
    ap (λ (ks : List OrderBy). rank_cmp ks a b) (ap (λ (ks : List OrderBy). ks ++ rest) pushed ∙ append_assoc keys (key ∷ []) rest)

-- ---- a key more

module _ (names : List (List ℕ)) (keys : List HitKey) where
  abbrev whole : List OrderBy
  whole = map (key_by names) keys

  pub no_key : (found : List OrderBy) → found ≡ [] → OrderAlike (found ++ whole) whole
  no_key found none a b = ap (λ (ks : List OrderBy). rank_cmp (ks ++ whole) a b) none

  pub one_key : (i : ℕ) (key : HitKey) (by : OrderBy) (found more : List OrderBy) → i < length keys → key ≡ get_or keys i key → by ≡ key_by names key
      → ((rest : List OrderBy) → OrderAlike (more ++ rest) (found ++ by ∷ rest)) → OrderAlike (found ++ map (key_by names) (drop i keys)) whole → OrderAlike (more ++ map (key_by names) (drop (i + 1) keys)) whole
  one_key i key by found more within is by_is put before a b =
      let rest : List OrderBy = map (key_by names) (drop (i + 1) keys) in
      put rest a b
      ∙ ap (λ (k : OrderBy). rank_cmp (found ++ k ∷ rest) a b) by_is
      ∙ ap (λ (ks : List HitKey). rank_cmp (found ++ map (key_by names) ks) a b) (sym (drop_next keys i key within is))
      ∙ before a b

  pub all_keys : (i : ℕ) (found : List OrderBy) → length keys ≤ i → OrderAlike (found ++ map (key_by names) (drop i keys)) whole → OrderAlike found whole
  all_keys i found past before a b =
      ap (λ (ks : List OrderBy). rank_cmp ks a b) (sym (append-nil found) ∙ ap (λ (ks : List HitKey). found ++ map (key_by names) ks) (sym (drop_all i keys past)))
      ∙ before a b

-- ---- rows in order

pub sorted_again : (by : List OrderBy) (first old new : List Row) → HaveOwnKeys first → IsPermutation first old → IsPermutation old new → AreInOrder by new
    → new ≡ sorted_by (λ a b. rank_cmp by (ranked a) (ranked b)) first
sorted_again by first old new own moved sorted up = one_order _ (row_cmp_total by) first (rows_apart by first own) new (IsPermutation-trans first old new moved sorted) up
