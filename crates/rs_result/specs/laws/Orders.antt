-- What holds of the order of rows.
use Rattle.std.specs.Prelude.{ℕ, ℤ, ◌<ℤ◌, ◌≡◌, Bool, true, false, List, [], ◌∷◌, map, refl}
use Rattle.std.proofs.Common.{ap, ap₂, subst, ◌∙◌}
use Rattle.std.specs.declared.cmp.Ordering.{Ordering}
use Rattle.std.specs.declared.cmp.Ordering.TheVariants.{Less, Equal, Greater}
use Rattle.std.specs.Ordering.{MatchOrdering, eq_by_cmp, flip_args, int_cmp, int_eq, is_eq, is_lt, nat_cmp, ordering_reverse, ordering_then}
use Rattle.std.specs.Cmp.{IsTotalOrder}
use Rattle.std.specs.Cmp.Lexicographic.{options_total, slice_cmp}
use Rattle.std.specs.List.{AllByRecursion, IsDistinct}
use Rattle.std.specs.List.Sorted.{IsStrictlySortedBy}
use Rattle.std.proofs.lemmas.Cmp.{back_total, int_cmp_total, int_ranked, nat_cmp_total, nat_list_cmp_total, on_total, then_total}
use Rattle.std.proofs.lemmas.Map.Keys.{IsDistinct-from_sorted, sorted_head, sorted_tail}
use Rattle.ct_base.specs.declared.lists.Value.{Value}
use Rattle.ct_base.specs.declared.lists.Value.TheVariants.{Number, Text}
use Rattle.ct_base.specs.laws.Orders.{eq_from_equal}
use Rattle.rs_result.specs.declared.rows.ResultRow.{ResultRow}
use Rattle.rs_result.specs.declared.rows.By.{By}
use Rattle.rs_result.specs.declared.rows.By.TheVariants.{Score, Column}
use Rattle.rs_result.specs.declared.rows.OrderBy.{OrderBy}
use Rattle.rs_result.specs.Comparing.{Ranked, by_cmp, key_cmp, nth_value, rank_cmp, ranked, turned, value_cmp}
use Rattle.rs_result.specs.Orders.{HaveOwnKeys, own_key}
use Rattle.rs_result.specs.Sorting.{sorted_by}
use Rattle.rs_result.specs.laws.Sorting.{IsAtMostFirst, Rises, rising_stays}

-- ---- the comparison of values is a total order

-- a comparison that answers as a total order does is one
same_total : {K : Type 0} (R S : K → K → Ordering) → IsTotalOrder R → ((x y : K) → R x y ≡ S x y) → IsTotalOrder S
same_total R S total same = subst IsTotalOrder (λ i x y. same x y i) total

values_back : (v w : Value) → value_cmp v w ≡ ordering_reverse (value_cmp w v)
values_back (Number n) (Number k) = int_cmp_total.antisymm n k
values_back (Number n) (Text t) = refl
values_back (Text s) (Number k) = refl
values_back (Text s) (Text t) = nat_list_cmp_total.antisymm s t

values_chain : (u v w : Value) → value_cmp u v ≡ Less → value_cmp v w ≡ Less → value_cmp u w ≡ Less
values_chain (Number m) (Number n) (Number k) e f = int_cmp_total.trans m n k e f
values_chain (Number m) (Text s) (Number k) e f = cc
values_chain (Number m) v (Text t) e f = refl
values_chain (Text r) (Number n) w e f = cc
values_chain (Text r) (Text s) (Number k) e f = cc
values_chain (Text r) (Text s) (Text t) e f = nat_list_cmp_total.trans r s t e f

values_alike : (u v w : Value) → value_cmp u v ≡ Equal → value_cmp u w ≡ value_cmp v w
values_alike (Number m) (Number n) (Number k) e = int_cmp_total.congr m n k e
values_alike (Number m) (Number n) (Text t) e = refl
values_alike (Number m) (Text s) w e = cc
values_alike (Text r) (Number n) w e = cc
values_alike (Text r) (Text s) (Number k) e = refl
values_alike (Text r) (Text s) (Text t) e = nat_list_cmp_total.congr r s t e

pub value_cmp_total : IsTotalOrder value_cmp
value_cmp_total = record { antisymm = values_back; trans = values_chain; congr = values_alike }

-- ---- values that tie are the same

same_number : (n k : ℤ) → int_cmp n k ≡ Equal → n ≡ k
same_number n k e = subst (λ o. MatchOrdering o (n <ℤ k) (n ≡ k) (k <ℤ n)) e (int_ranked n k (int_cmp n k) refl)

both_tie : (o r : Ordering) → ordering_then o r ≡ Equal → (o ≡ Equal) × (r ≡ Equal)
both_tie Less r e = cc
both_tie Equal r e = (refl, e)
both_tie Greater r e = cc

same_text : (s t : List ℕ) → slice_cmp nat_cmp s t ≡ Equal → s ≡ t
same_text [] [] e = refl
same_text [] (y ∷ ys) e = cc
same_text (x ∷ xs) [] e = cc
same_text (x ∷ xs) (y ∷ ys) e = let both = both_tie (nat_cmp x y) (slice_cmp nat_cmp xs ys) e in ap₂ ◌∷◌ (eq_from_equal x y both.0) (same_text xs ys both.1)

pub values_tie : (v w : Value) → value_cmp v w ≡ Equal → v ≡ w
values_tie (Number n) (Number k) e = ap Number (same_number n k e)
values_tie (Number n) (Text t) e = cc
values_tie (Text s) (Number k) e = cc
values_tie (Text s) (Text t) e = ap Text (same_text s t e)

-- ---- the comparison of rows is a total order

by_cmp_total : (by : By) → IsTotalOrder (by_cmp by)
by_cmp_total Score = on_total (λ (r : Ranked). r.score) nat_cmp_total
by_cmp_total (Column column) = on_total (nth_value column) (options_total value_cmp_total)

turned_total : (down : Bool) (R : Ranked → Ranked → Ordering) → IsTotalOrder R → IsTotalOrder (λ x y. turned down (R x y))
turned_total true R total = same_total (flip_args R) (λ x y. ordering_reverse (R x y)) (back_total total) (λ x y. total.antisymm y x)
turned_total false R total = total

pub rank_cmp_total : (by : List OrderBy) → IsTotalOrder (rank_cmp by)
rank_cmp_total [] = on_total (λ (r : Ranked). r.key) int_cmp_total
rank_cmp_total (key ∷ by) = then_total (turned_total key.down (by_cmp key.by) (by_cmp_total key.by)) (rank_cmp_total by)

-- ---- rows with keys of their own

then_apart : (o r : Ordering) → is_eq r ≡ false → is_eq (ordering_then o r) ≡ false
then_apart Less r e = refl
then_apart Equal r e = e
then_apart Greater r e = refl

ranks_apart : (by : List OrderBy) (a b : Ranked) → int_eq a.key b.key ≡ false → is_eq (rank_cmp by a b) ≡ false
ranks_apart [] a b e = e
ranks_apart (key ∷ by) a b e = then_apart (key_cmp key a b) (rank_cmp by a b) (ranks_apart by a b e)

module _ {T : Type 0} where
  each_apart : (by : List OrderBy) (r : ResultRow T) (rows : List (ResultRow T)) → AllByRecursion (λ k. int_eq r.key.0 k ≡ false) (map own_key rows)
      → AllByRecursion (λ s. is_eq (rank_cmp by (ranked r) (ranked s)) ≡ false) rows
  each_apart by r [] apart = tt
  each_apart by r (s ∷ rows) apart = (ranks_apart by (ranked r) (ranked s) apart.0, each_apart by r rows apart.1)

  -- rows with keys of their own don't tie
  pub rows_apart : (by : List OrderBy) (rows : List (ResultRow T)) → HaveOwnKeys rows → IsDistinct (eq_by_cmp (λ a b. rank_cmp by (ranked a) (ranked b))) rows
  unfolding IsDistinct
  rows_apart by [] apart = tt
  rows_apart by (r ∷ rows) apart = (each_apart by r rows apart.0, rows_apart by rows apart.1)

  pub row_cmp_total : (by : List OrderBy) → IsTotalOrder (λ (a b : ResultRow T). rank_cmp by (ranked a) (ranked b))
  row_cmp_total by = on_total ranked (rank_cmp_total by)

  pub rising_rows_differ : (rows : List (ResultRow T)) → IsStrictlySortedBy int_cmp (map own_key rows) → HaveOwnKeys rows
  rising_rows_differ rows up = IsDistinct-from_sorted int_cmp (map own_key rows) up

  first_row : (r : ResultRow T) (rows : List (ResultRow T)) → AllByRecursion (λ k. int_cmp r.key.0 k ≡ Less) (map own_key rows) → IsAtMostFirst (λ a b. rank_cmp [] (ranked a) (ranked b)) r rows
  first_row r [] above = tt
  first_row r (s ∷ rows) above = ap is_lt (int_cmp_total.antisymm s.key.0 r.key.0 ∙ ap ordering_reverse above.0)

  rows_rise : (rows : List (ResultRow T)) → IsStrictlySortedBy int_cmp (map own_key rows) → Rises (λ a b. rank_cmp [] (ranked a) (ranked b)) rows
  rows_rise [] up = tt
  rows_rise (r ∷ rows) up = (first_row r rows (sorted_head int_cmp r.key.0 (map own_key rows) up), rows_rise rows (sorted_tail int_cmp r.key.0 (map own_key rows) up))

  -- rows whose keys rise stay as they are where no key is asked for
  pub rising_rows_stay : (rows : List (ResultRow T)) → IsStrictlySortedBy int_cmp (map own_key rows) → sorted_by (λ a b. rank_cmp [] (ranked a) (ranked b)) rows ≡ rows
  rising_rows_stay rows up = rising_stays (λ a b. rank_cmp [] (ranked a) (ranked b)) rows (rows_rise rows up)
