-- The state after an index is dropped.
use Rattle.std.proofs.Common.{◌≡◌, ℕ, ◌≤◌, Bool, true, false, cond, List, length, None, refl, sym, ap, ◌∙◌, arith}
use Rattle.std.specs.Prelude.{not, filter, is_some}
use Rattle.std.specs.Ordering.{nat_cmp, eq_by_cmp}
use Rattle.std.specs.Cmp.Lexicographic.{slice_cmp}
use Rattle.std.specs.FinMap.{get, entries, remove, slice_cmp-IsAntisymmetric, nat_cmp-IsAntisymmetric}
use Rattle.std.proofs.lemmas.Cmp.{nat_list_cmp_total}
use Rattle.ct_keep.specs.Content.{Content, after}
use Rattle.ct_entry.specs.Keys.{at, same_list}
use Rattle.ct_entry.specs.Maps.{Names}
use Rattle.ct_entry.specs.Changes.{spell, view}
use Rattle.ct_entry.specs.laws.MapRemovals.{entries_without}
use Rattle.ct_entry.specs.laws.Maps.{get_name-remove}
use Rattle.ix_kinds.specs.Drops.{LosesIndexes}
use Rattle.ix_kinds.specs.laws.Drops.{drop_stands, drop_keeps}
use Rattle.ix_indexes.specs.Indexes.{Index, kinds}
use Rattle.ix_indexes.specs.laws.Indexes.{kinds_laws}
use Rattle.ix_indexes.specs.laws.Removing.{remove_loses, all_of_index, removals_are, told_one}
use Rattle.db_state.specs.States.{StoreState, StandsForState, indexes_on, index_limit}
use Rattle.db_state.specs.Entries.{Becomes}
use Rattle.db_state.specs.laws.SamePostings.{becomes_by, same_left}
use Rattle.db_state.specs.laws.ShortRows.{rows_left}
use Rattle.db_state.specs.laws.Removing.{fewer_kept}
use Rattle.db_index.specs.Dropping.{with_index_dropped}
use Rattle.db_index.specs.laws.IndexChanges.{indexes_changed}
use Rattle.ix_indexes.specs.Removing.{index_removals}

-- a table has no more indexes than before
few_dropped : (xs : Names Index) (i t : List ℕ) → length (indexes_on xs t) ≤ index_limit → length (indexes_on (remove xs i) t) ≤ index_limit
few_dropped xs i t few =
    let left = entries_without (slice_cmp nat_cmp) nat_list_cmp_total (slice_cmp-IsAntisymmetric nat_cmp-IsAntisymmetric) xs i in
    let less = fewer_kept (λ (e : List ℕ × Index). same_list e.1.table t) (λ e. not (eq_by_cmp (slice_cmp nat_cmp) i e.0)) (entries xs) in
    let same = ap (λ (es : List (List ℕ × Index)). length (filter (λ e. same_list e.1.table t) es)) left in
    omega (arith, less, same, few)

-- its entries are gone, and all others stay
loses : (c : Content) (m : StoreState) (i : List ℕ) → StandsForState c m → LosesIndexes (λ q. same_list q i) (at c) (view (index_removals i c) (at c))
loses c m i stands = remove_loses i c (at c) (λ k of. refl)

pub dropped_stands : (c : Content) (m : StoreState) (i : List ℕ) → StandsForState c m → StandsForState (after (spell (index_removals i c)) c) (with_index_dropped m i)
dropped_stands c m i stands =
    let ws = index_removals i c in
    indexes_changed c m ws (remove m.indexes i) stands (all_of_index i c) (removals_are i c stands.only) (rows_left (at c) (view ws (at c)) (λ k v has. told_one i c k (at c k) v has) stands.short_rows)
    (drop_stands kinds kinds_laws (at c) (view ws (at c)) m.tables m.indexes i (loses c m i stands) stands.indexes) (drop_keeps kinds kinds_laws m.tables m.indexes i stands.state.indexes)
    (λ t. few_dropped m.indexes i t (stands.state.few t))

-- and all other indexes are as before
pub dropped_becomes : (c : Content) (m : StoreState) (i : List ℕ) → StandsForState c m → Becomes (with_index_dropped m i) c (after (spell (index_removals i c)) c)
dropped_becomes c m i stands =
    becomes_by (with_index_dropped m i) (index_removals i c) c (dropped_stands c m i stands)
    (same_left (with_index_dropped m i) (λ q. same_list q i) (at c) (view (index_removals i c) (at c)) (loses c m i stands) (λ q here. left q (same_list q i) refl here))
  where
    left : (q : List ℕ) (b : Bool) → same_list q i ≡ b → is_some (get (remove m.indexes i) q) ≡ true → b ≡ false
    left q true is here = let none : false ≡ true = sym (ap is_some (get_name-remove m.indexes i q ∙ ap (λ (b : Bool). cond b None (get m.indexes q)) is)) ∙ here in cc
    left q false is here = refl
