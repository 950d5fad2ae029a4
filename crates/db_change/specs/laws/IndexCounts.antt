-- The number of indexes on a table, where those on one table become others on it.
use Rattle.std.proofs.Common.{◌≡◌, ℕ, ℤ, Bool, true, false, cond, List, [], ◌∷◌, length, map, refl, ap, ◌∙◌}
use Rattle.std.specs.Prelude.{◌&&◌, filter}
use Rattle.std.specs.declared.cmp.Ordering.{Ordering}
use Rattle.std.specs.Ordering.{is_lt, nat_cmp}
use Rattle.std.specs.Cmp.{IsTotalOrder}
use Rattle.std.specs.Cmp.Lexicographic.{slice_cmp}
use Rattle.std.specs.FinMap.{FinMap, entries}
use Rattle.std.proofs.lemmas.Cmp.{nat_list_cmp_total}
use Rattle.ct_keep.specs.laws.RisingKeys.{below, rises, entries_rise}
use Rattle.ct_entry.specs.Keys.{same_list}
use Rattle.ct_entry.specs.Maps.{Names, each_at}
use Rattle.tb_table.specs.Tables.{Tables}
use Rattle.ix_kinds.specs.Rows.{RowChange, row_change}
use Rattle.ix_kinds.specs.Statements.{index_after_row, after_row_on, indexes_after_row, indexes_after}
use Rattle.ix_indexes.specs.Indexes.{Index, kinds}
use Rattle.db_state.specs.States.{indexes_on}
use Rattle.db_state.specs.laws.EachValue.{entries-from_rising, count_alike}

module _ {K X Y : Type 0} (R : K → K → Ordering) (f : K → X → Y) where
  each_below : (k : K) (es : List (K × X)) → below R k (map (λ e. (e.0, f e.0 e.1)) es) ≡ below R k es
  each_below k [] = refl
  each_below k (e ∷ es) = ap (λ (b : Bool). is_lt (R k e.0) && b) (each_below k es)

  each_rise : (es : List (K × X)) → rises R (map (λ e. (e.0, f e.0 e.1)) es) ≡ rises R es
  each_rise [] = refl
  each_rise (e ∷ es) = ap (λ (b : Bool). b && rises R (map (λ e. (e.0, f e.0 e.1)) es)) (each_below e.0 es) ∙ ap (λ (b : Bool). below R e.0 es && b) (each_rise es)

  -- a map whose values are rewritten keeps its keys, in their order
  entries-each_at : IsTotalOrder R → (m : FinMap R X) → entries (each_at f m) ≡ map (λ e. (e.0, f e.0 e.1)) (entries m)
  entries-each_at o m = entries-from_rising R o (map (λ e. (e.0, f e.0 e.1)) (entries m)) (each_rise (entries m) ∙ entries_rise R m)

module _ (change : List ℕ → Index → Index) (same : (i : List ℕ) (x : Index) → (change i x).table ≡ x.table) where
  -- where each index stays on its table, a table has as many
  pub few_each : (xs : Names Index) (q : List ℕ) → length (indexes_on (each_at change xs) q) ≡ length (indexes_on xs q)
  few_each xs q =
      ap (λ (es : List (List ℕ × Index)). length (filter (λ e. same_list e.1.table q) es)) (entries-each_at (slice_cmp nat_cmp) change nat_list_cmp_total xs)
      ∙ count_alike (λ (e : List ℕ × Index). (e.0, change e.0 e.1)) (λ e. same_list e.1.table q) (λ e. same_list e.1.table q) (λ e. ap (λ (u : List ℕ). same_list u q) (same e.0 e.1)) (entries xs)

-- a row that changes leaves each index on its table
pub few_after_row : (test : Index → Bool) (t : List ℕ) (c : RowChange) (xs : Names Index) (q : List ℕ) → length (indexes_on (indexes_after_row kinds test t c xs) q) ≡ length (indexes_on xs q)
few_after_row test t c xs q = few_each (after_row_on kinds test t c) same xs q
  where
    same : (i : List ℕ) (x : Index) → (after_row_on kinds test t c i x).table ≡ x.table
    same i x = go (same_list x.table t && test x)
      where
        go : (b : Bool) → (cond b (index_after_row kinds c i x) x).table ≡ x.table
        go true = refl
        go false = refl

-- and so do several
pub few_after : (test : Index → Bool) (step : Tables → ℤ → Tables) (ts : Tables) (t : List ℕ) (rows : List ℤ) (xs : Names Index) (q : List ℕ)
    → length (indexes_on (indexes_after kinds test step ts t rows xs) q) ≡ length (indexes_on xs q)
few_after test step ts t [] xs q = refl
few_after test step ts t (r ∷ rows) xs q =
    few_after test step (step ts r) t rows (indexes_after_row kinds test t (row_change ts (step ts r) t r) xs) q ∙ few_after_row test t (row_change ts (step ts r) t r) xs q
