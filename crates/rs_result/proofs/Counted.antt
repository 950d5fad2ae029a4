-- Steps of counting values.
use Rattle.std.specs.Prelude.{◌≡◌, ℕ, ◌++◌, List, [], ◌∷◌, map, Some, None, Result, Ok, Err, IfOk, refl}
use Rattle.std.proofs.Common.{ap, append_assoc, subst, sym, ◌∙◌}
use Rattle.std.specs.declared.cmp.Ordering.{Ordering}
use Rattle.std.specs.declared.vec.Vec.{Vec}
use Rattle.std.specs.declared.alloc.Global.{Global}
use Rattle.std.specs.List.Sorted.{IsPermutation, IsSorted}
use Rattle.std.specs.Option.{option_to_list}
use Rattle.std.proofs.lemmas.List.Sorted.{IsPermutation-map}
use denote.Ref.{Bor}
use Rattle.ct_base.specs.declared.lists.Value.{Value}
use Rattle.rs_result.specs.declared.rows.ResultRow.{ResultRow}
use Rattle.rs_result.specs.declared.rows.Count.{Count}
use Rattle.rs_result.specs.Comparing.{nth_value, ranked, value_cmp}
use Rattle.rs_result.specs.Counts.{AreCountsOf, Counted, column_values, counted, runs, value_counts, values_of}
use Rattle.rs_result.specs.laws.Counts.{counts_permute, one_list_of_counts, runs_count}
use Rattle.rs_result.specs.laws.Sorting.{IsAtMostFirst, Rises, rises_from_in_order}

values_last : (vs : List (Bor Value)) (v : Bor Value) → values_of (vs ++ v ∷ []) ≡ values_of vs ++ v.now ∷ []
values_last [] v = refl
values_last (w ∷ vs) v = ap (λ (x : List Value). w.now ∷ x) (values_last vs v)

module _ {T : Type 0} where
  -- a row with a value
  pub value_on : (vs more : List (Bor Value)) (v : Bor Value) (column : ℕ) (rows others : List (ResultRow T)) (row : ResultRow T) (all : List Value)
      → rows ≡ row ∷ others → Some v.now ≡ nth_value column (ranked row) → more ≡ vs ++ v ∷ []
      → values_of vs ++ column_values column (map ranked rows) ≡ all → values_of more ++ column_values column (map ranked others) ≡ all
  value_on vs more v column rows others row all split is push so =
      ap (λ x. values_of x ++ column_values column (map ranked others)) push
      ∙ ap (λ x. x ++ column_values column (map ranked others)) (values_last vs v)
      ∙ append_assoc (values_of vs) (v.now ∷ []) (column_values column (map ranked others))
      ∙ ap (λ o. values_of vs ++ (option_to_list o ++ column_values column (map ranked others))) is
      ∙ ap (λ x. values_of vs ++ column_values column (map ranked x)) (sym split) ∙ so

  -- a row without one
  pub no_value_on : (vs : List (Bor Value)) (column : ℕ) (rows others : List (ResultRow T)) (row : ResultRow T) (all : List Value)
      → rows ≡ row ∷ others → None ≡ nth_value column (ranked row)
      → values_of vs ++ column_values column (map ranked rows) ≡ all → values_of vs ++ column_values column (map ranked others) ≡ all
  no_value_on vs column rows others row all split is so =
      ap (λ o. values_of vs ++ (option_to_list o ++ column_values column (map ranked others))) is
      ∙ ap (λ x. values_of vs ++ column_values column (map ranked x)) (sym split) ∙ so

-- images rise where the elements rise by them
first_through : {X Y : Type 0} (cmp : Y → Y → Ordering) (f : X → Y) (x : X) (xs : List X) → IsAtMostFirst (λ a b. cmp (f a) (f b)) x xs → IsAtMostFirst cmp (f x) (map f xs)
first_through cmp f x [] first = tt
first_through cmp f x (y ∷ ys) first = first

rises_through : {X Y : Type 0} (cmp : Y → Y → Ordering) (f : X → Y) (xs : List X) → Rises (λ a b. cmp (f a) (f b)) xs → Rises cmp (map f xs)
rises_through cmp f [] up = tt
rises_through cmp f (x ∷ xs) up = (first_through cmp f x xs up.0, rises_through cmp f xs up.1)

counts_of_sorted : (bs sorted : List (Bor Value)) (cs : List Counted) → IsPermutation bs sorted → IsSorted (λ a b. value_cmp a.now b.now) sorted
    → cs ≡ runs (values_of sorted) → AreCountsOf (values_of bs) cs
counts_of_sorted bs sorted cs moved up are =
    counts_permute (values_of bs) (values_of sorted) cs (IsPermutation-map (λ (b : Bor Value). b.now) bs sorted moved)
    (subst (AreCountsOf (values_of sorted)) (sym are)
    (runs_count (values_of sorted) (rises_through value_cmp (λ (b : Bor Value). b.now) sorted (rises_from_in_order (λ a b. value_cmp a.now b.now) sorted up))))

pub groups_found : {E : Type 0} (r : Result (Vec Count Global) E) (vs : List Value) (bs sorted : List (Bor Value)) → values_of bs ≡ vs → IsPermutation bs sorted
    → IsSorted (λ a b. value_cmp a.now b.now) sorted → IfOk r (λ counts. map counted counts.items ≡ runs (values_of sorted)) → IfOk r (λ counts. AreCountsOf vs (map counted counts.items))
groups_found (Err e) vs bs sorted from moved up are = tt
groups_found (Ok counts) vs bs sorted from moved up are = subst (λ x. AreCountsOf x (map counted counts.items)) from (counts_of_sorted bs sorted (map counted counts.items) moved up are)

-- there is one such list
pub groups_counted : {E : Type 0} (r : Result (Vec Count Global) E) (vs : List Value) → IfOk r (λ counts. AreCountsOf vs (map counted counts.items))
    → IfOk r (λ counts. map counted counts.items ≡ value_counts vs)
groups_counted (Err e) vs are = tt
groups_counted (Ok counts) vs are = one_list_of_counts vs (map counted counts.items) are
