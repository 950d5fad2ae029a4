-- Rows that stand in the order of their values are the rows in the order asked for.
use Rattle.std.proofs.Common.{◌≡◌, ◌+◌, ℕ, ℤ, true, false, eqb, List, [], ◌∷◌, length, map, Option, Some, refl, sym, ap, subst, ◌∙◌, Contains, IsPermutation}
use Rattle.std.specs.List.{AllByRecursion}
use Rattle.std.specs.List.Sorted.{IsStrictlySortedBy}
use Rattle.std.specs.FinMap.{get}
use Rattle.std.specs.declared.cmp.Ordering.{Ordering}
use Rattle.std.specs.declared.cmp.Ordering.TheVariants.{Less}
use Rattle.std.specs.Ordering.{int_cmp, is_lt}
use Rattle.std.proofs.lemmas.Bool.{and_parts}
use Rattle.std.proofs.lemmas.List.Elements.{All-contains, All-from_recursion, recursion_from_All}
use Rattle.std.proofs.lemmas.List.Sorted.{All-permutation, sum_by-IsPermutation}
use Rattle.std.proofs.lemmas.List.Sums.{sum_by-cons}
use Rattle.ct_base.specs.declared.lists.Value.{Value}
use Rattle.ct_base.specs.laws.Orders.{less_from_test}
use Rattle.ct_keep.specs.KeeperViews.{Counts}
use Rattle.ct_entry.specs.laws.Rows.{keys_below, keys_rise_by}
use Rattle.st_parse.specs.declared.statements.Item.{Item}
use Rattle.st_parse.specs.declared.statements.OrderItem.{OrderItem}
use Rattle.tb_table.specs.declared.columns.Column.{Column}
use Rattle.tb_table.specs.Rules.{AreTables}
use Rattle.tb_table.specs.Tables.{Table, Tables}
use Rattle.ix_search.specs.declared.hits.Hit.{Hit}
use Rattle.ix_search.specs.Hits.{hit_rows}
use Rattle.rs_result.specs.declared.rows.OrderBy.{OrderBy}
use Rattle.rs_result.specs.declared.rows.ResultRow.{ResultRow}
use Rattle.rs_result.specs.Comparing.{Ranked, rank_cmp, ranked}
use Rattle.rs_result.specs.Orders.{HaveOwnKeys, own_key}
use Rattle.rs_result.specs.Sorting.{sorted_by}
use Rattle.rs_result.specs.laws.Orders.{rising_rows_differ}
use Rattle.rs_result.specs.laws.Sorting.{sorted_agrees, sorted_through}
use Rattle.db_rows.specs.Reading.{IsOwn}
use Rattle.db_rows.specs.Texts.{RisesLeaving, texts_alone, texts_left}
use Rattle.db_rows.specs.Values.{row_values, values_behind_key}
use Rattle.db_rows.specs.declared.reading.RowRead.{RowRead}
use Rattle.db_rows.specs.laws.Sources.{values_there}
use Rattle.db_select.specs.declared.finds.FoundRow.{FoundRow}
use Rattle.db_select.specs.declared.sources.FieldSource.{FieldSource}
use Rattle.db_select.specs.Fields.{found_value}
use Rattle.db_select.specs.Hits.{HoldOwn, hits_of, rows_left}
use Rattle.db_select.specs.Ordering.{field, in_order, keys_from, rank}
use Rattle.db_select.specs.Ranking.{AreRanked, IsRanked, OrdersRows, found_of, order_sources, ranked_left}
use Rattle.db_select.specs.Sources.{field_source}
use Rattle.db_select.proofs.FieldLaws.{field_is}

-- ---- keys that rise

all_above : (k : ℤ) (js : List ℤ) → keys_below int_cmp k js ≡ true → AllByRecursion (λ j. int_cmp k j ≡ Less) js
all_above k [] is = tt
all_above k (j ∷ js) is =
    let both = and_parts (is_lt (int_cmp k j)) (keys_below int_cmp k js) is in
    (less_from_test (int_cmp k j) both.0, all_above k js both.1)

strictly_rising : (ks : List ℤ) → keys_rise_by int_cmp ks ≡ true → IsStrictlySortedBy int_cmp ks
unfolding IsStrictlySortedBy
strictly_rising [] is = tt
strictly_rising (k ∷ ks) is =
    let both = and_parts (keys_below int_cmp k ks) (keys_rise_by int_cmp ks) is in
    (all_above k ks both.0, strictly_rising ks both.1)

-- ---- rows by their keys and scores

abbrev pair : ResultRow RowRead → ℤ × ℕ
pair r = (r.key.0, r.score)

pairs_found : (rs : List (ResultRow RowRead)) → hit_rows (hits_of (map found_of rs)) ≡ map pair rs
pairs_found [] = refl
pairs_found (r ∷ rs) = ap (λ (l : List (ℤ × ℕ)). pair r ∷ l) (pairs_found rs)

own_keys : (rs : List (ResultRow RowRead)) → map own_key rs ≡ map (λ h. h.0) (map pair rs)
own_keys [] = refl
own_keys (r ∷ rs) = ap (λ (l : List ℤ). r.key.0 ∷ l) (own_keys rs)

module _ (ts : Tables) (t : List ℕ) (sources : List FieldSource) where
  pairs_ranked : (rows : List FoundRow) (rs : List (ResultRow RowRead)) → AreRanked ts t sources rows rs → map pair rs ≡ hit_rows (hits_of rows)
  pairs_ranked [] [] are = refl
  pairs_ranked [] (r ∷ rs) are = absurd are
  pairs_ranked (row ∷ rows) [] are = absurd are
  pairs_ranked (row ∷ rows) (r ∷ rs) are = λ i. ((are.0.hit i).key.0, (are.0.hit i).score) ∷ pairs_ranked rows rs are.1 i

  -- what was read of them stays their own
  own_ranked : (rows : List FoundRow) (rs : List (ResultRow RowRead)) → AreRanked ts t sources rows rs → HoldOwn ts t rows → AllByRecursion (λ r. IsOwn ts t r.key r.item) rs
  own_ranked [] [] are own = tt
  own_ranked [] (r ∷ rs) are own = absurd are
  own_ranked (row ∷ rows) [] are own = absurd are
  own_ranked (row ∷ rows) (r ∷ rs) are own = (subst (λ (h : Hit). IsOwn ts t h.key r.item) (sym are.0.hit) (are.0.own own.0), own_ranked rows rs are.1 own.1)

  own_found : (rs : List (ResultRow RowRead)) → AllByRecursion (λ r. IsOwn ts t r.key r.item) rs → HoldOwn ts t (map found_of rs)
  own_found [] own = tt
  own_found (r ∷ rs) own = (own.0, own_found rs own.1)

  pub ordered_own : (rows : List FoundRow) (old new : List (ResultRow RowRead)) (found : List FoundRow) → AreRanked ts t sources rows old → IsPermutation old new → found ≡ map found_of new
      → HoldOwn ts t rows → HoldOwn ts t found
  ordered_own rows old new found are moved is own =
      let P : ResultRow RowRead → Type 0 = λ r. IsOwn ts t r.key r.item in
      subst (HoldOwn ts t) (sym is) (own_found new (recursion_from_All P new (All-permutation P old new moved (All-from_recursion P old (own_ranked rows old are own)))))

-- ---- the texts that are left

module _ (places : List ℕ) where
  found_left : (rs : List (ResultRow RowRead)) → rows_left places (map found_of rs) ≡ ranked_left places rs
  found_left [] = refl
  found_left (r ∷ rs) =
      sum_by-cons (λ (row : FoundRow). texts_left places row.read) (found_of r) (map found_of rs)
      ∙ ap (λ (n : ℕ). texts_left places r.item + n) (found_left rs)
      ∙ sym (sum_by-cons (λ (r : ResultRow RowRead). texts_left places r.item) r rs)

  -- as many as before
  ordered_left : (old new : List (ResultRow RowRead)) (found : List FoundRow) → IsPermutation old new → found ≡ map found_of new → rows_left places found ≡ ranked_left places old
  ordered_left old new found moved is = ap (rows_left places) is ∙ found_left new ∙ sum_by-IsPermutation (λ (r : ResultRow RowRead). texts_left places r.item) old new moved

  pub ordered_within : (n : ℕ) (old new : List (ResultRow RowRead)) (found : List FoundRow) (x y : Counts) → IsPermutation old new → found ≡ map found_of new
      → RisesLeaving (texts_alone n) (ranked_left places old) x y → RisesLeaving (texts_alone n) (rows_left places found) x y
  ordered_within n old new found x y moved is rises = subst (λ (left : ℕ). RisesLeaving (texts_alone n) left x y) (sym (ordered_left old new found moved is)) rises

-- ---- the values

module _ (ts : Tables) (t : List ℕ) (x : Table) (tables : AreTables ts) (here : get ts t ≡ Some x) where
  value_is : (h : Hit) (item : Item) → found_value h (row_values ts t h.key.0) (field_source x.columns item) ≡ field x.columns h.key.0 (values_behind_key (get x.rows h.key.0)) h.score item
  value_is h item = field_is ts t x tables here h.key.0 h.score item ∙ ap (λ (vs : List Value). field x.columns h.key.0 vs h.score item) (values_there ts t x h.key.0 here)

  values_are : (h : Hit) (orders : List OrderItem) → map (found_value h (row_values ts t h.key.0)) (order_sources x.columns orders)
      ≡ map (λ o. field x.columns h.key.0 (values_behind_key (get x.rows h.key.0)) h.score o.item) orders
  values_are h [] = refl
  values_are h (o ∷ orders) = λ i. value_is h o.item i ∷ values_are h orders i

  rank_is : (orders : List OrderItem) (row : FoundRow) (r : ResultRow RowRead) → IsRanked ts t (order_sources x.columns orders) row r → IsOwn ts t row.hit.key row.read → ranked r ≡ rank x orders (pair r)
  rank_is orders row r is own =
      let values : r.values.items ≡ map (λ (o : OrderItem). field x.columns r.key.0 (values_behind_key (get x.rows r.key.0)) r.score o.item) orders =
      is.values own
      ∙ ap (λ (h : Hit). map (found_value h (row_values ts t h.key.0)) (order_sources x.columns orders)) (sym is.hit)
      ∙ values_are (record { key = r.key; score = r.score }) orders in
      let with_values : List (Option Value) → Ranked = λ vs. record { key = r.key.0; score = r.score; values = vs } in
      ap with_values values

  ranks_are : (orders : List OrderItem) (rows : List FoundRow) (rs : List (ResultRow RowRead)) → AreRanked ts t (order_sources x.columns orders) rows rs → HoldOwn ts t rows
      → AllByRecursion (λ r. ranked r ≡ rank x orders (pair r)) rs
  ranks_are orders [] [] are own = tt
  ranks_are orders [] (r ∷ rs) are own = absurd are
  ranks_are orders (row ∷ rows) [] are own = absurd are
  ranks_are orders (row ∷ rows) (r ∷ rs) are own = (rank_is orders row r are.0 own.0, ranks_are orders rows rs are.1 own.1)

-- ---- the order

module _ (x : Table) (orders : List OrderItem) where
  abbrev rows_cmp : ℤ × ℕ → ℤ × ℕ → Ordering
  rows_cmp a b = rank_cmp (keys_from 0 orders) (rank x orders a) (rank x orders b)

  pairs_sorted : (rs : List (ResultRow RowRead)) → AllByRecursion (λ r. ranked r ≡ rank x orders (pair r)) rs
      → map pair (sorted_by (λ a b. rank_cmp (keys_from 0 orders) (ranked a) (ranked b)) rs) ≡ sorted_by rows_cmp (map pair rs)
  pairs_sorted rs each =
      let P : ResultRow RowRead → Type 0 = λ r. ranked r ≡ rank x orders (pair r) in
      let at : (r : ResultRow RowRead) → Contains rs r → ranked r ≡ rank x orders (pair r) = λ r there. All-contains P rs r (All-from_recursion P rs each) there in
      ap (map pair)
      (sorted_agrees (λ a b. rank_cmp (keys_from 0 orders) (ranked a) (ranked b)) (λ a b. rows_cmp (pair a) (pair b)) rs (λ a b first second i. rank_cmp (keys_from 0 orders) (at a first i) (at b second i)))
      ∙ sym (sorted_through rows_cmp pair rs)

some_order : (x : Table) (orders : List OrderItem) (hs : List (ℤ × ℕ)) → eqb (length orders) 0 ≡ false → sorted_by (rows_cmp x orders) hs ≡ in_order x orders hs
some_order x [] hs some = let wrong : true ≡ false = some in absurd (cc)
some_order x (o ∷ orders) hs some = refl

-- Rows with their values, put into order by these, are the rows in the order asked for.
pub ordered_rows : (ts : Tables) (t : List ℕ) (x : Table) (columns : List Column) (orders : List OrderItem) (sources : List FieldSource) (keys : List OrderBy) (rows : List FoundRow)
    (old new : List (ResultRow RowRead)) (found : List FoundRow) → AreTables ts → get ts t ≡ Some x → x.columns ≡ columns → sources ≡ order_sources columns orders → keys ≡ keys_from 0 orders
    → AreRanked ts t sources rows old → (HaveOwnKeys old → new ≡ sorted_by (λ a b. rank_cmp keys (ranked a) (ranked b)) old) → found ≡ map found_of new → eqb (length orders) 0 ≡ false
    → OrdersRows ts t x orders rows found
ordered_rows ts t x columns orders sources keys rows old new found tables here same sources_are keys_are given sorted is some own rise =
    let are : AreRanked ts t (order_sources x.columns orders) rows old =
    subst (λ (ss : List FieldSource). AreRanked ts t ss rows old) (sources_are ∙ ap (λ (cs : List Column). order_sources cs orders) (sym same)) given in
    let pairs : map pair old ≡ hit_rows (hits_of rows) = pairs_ranked ts t (order_sources x.columns orders) rows old are in
    let up : keys_rise_by int_cmp (map own_key old) ≡ true = ap (keys_rise_by int_cmp) (own_keys old ∙ ap (map (λ h. h.0)) pairs) ∙ rise in
    let by_keys : new ≡ sorted_by (λ a b. rank_cmp (keys_from 0 orders) (ranked a) (ranked b)) old =
    sorted (rising_rows_differ old (strictly_rising (map own_key old) up)) ∙ ap (λ (by : List OrderBy). sorted_by (λ a b. rank_cmp by (ranked a) (ranked b)) old) keys_are in
    ap (λ (l : List FoundRow). hit_rows (hits_of l)) is
    ∙ pairs_found new
    ∙ ap (map pair) by_keys
    ∙ pairs_sorted x orders old (ranks_are ts t x tables here orders rows old are own)
    ∙ ap (sorted_by (rows_cmp x orders)) pairs
    ∙ some_order x orders (hit_rows (hits_of rows)) some

-- ---- where nothing is asked for

pub unordered_rows : (ts : Tables) (t : List ℕ) (x : Table) (orders : List OrderItem) (rows : List FoundRow) → orders ≡ [] → OrdersRows ts t x orders rows rows
unordered_rows ts t x orders rows none own rise = sym (ap (λ (os : List OrderItem). in_order x os (hit_rows (hits_of rows))) none)
