-- What is printed of rows that stand in any order.
use Rattle.std.proofs.Common.{◌≡◌, ◌+◌, ◌-◌, ◌≤◌, ◌<◌, ℕ, zero, suc, Bool, true, false, cond, List, [], ◌∷◌, ◌++◌, length, map, get_or, drop, take, Result, Ok, Err, refl, sym, ap, ◌∙◌, arith, IsPermutation}
use Rattle.std.specs.Prelude.{OnOk, ◌||◌}
use Rattle.std.specs.List.{flat_map, sum_by}
use Rattle.std.specs.Option.{option_to_list}
use Rattle.std.proofs.lemmas.List.{drop-map, flat_map_more, length-map, take-map, take_all, take_more}
use Rattle.std.proofs.lemmas.List.Recursion.{is_sum_by}
use Rattle.std.proofs.lemmas.List.Sorted.{IsPermutation-map, length_permutation, sum_by-IsPermutation}
use Rattle.ct_base.specs.declared.faults.Memory.{Memory}
use Rattle.ct_base.specs.declared.lists.Value.{Value}
use Rattle.rs_result.specs.declared.descriptors.HitKey.{HitKey}
use Rattle.rs_result.specs.declared.descriptors.ResultPart.{ResultPart}
use Rattle.rs_result.specs.declared.descriptors.ResultPart.TheVariants.{Count as CountPart, Hits, Group}
use Rattle.rs_result.specs.declared.rows.Count.{Count}
use Rattle.rs_result.specs.declared.rows.OrderBy.{OrderBy}
use Rattle.rs_result.specs.Comparing.{Ranked, nth_value, rank_cmp, ranked}
use Rattle.rs_result.specs.Counts.{AreCountsOf, are_same, column_values, count_same, counted, value_counts}
use Rattle.rs_result.specs.Orders.{AreInOrder, cut}
use Rattle.rs_result.specs.Sorting.{sorted_by}
use Rattle.rs_result.specs.laws.Counts.{counts_are, one_list_of_counts}
use Rattle.rs_result.specs.laws.Sorting.{sorted_through}
use Rattle.db_hits.specs.Descriptors.{has_bad_cut, is_bad_cut}
use Rattle.db_hits.specs.Parts.{count_line, group_line}
use Rattle.db_hits.specs.Rows.{OrderAlike, PrintsPart, Row, held_text, index_in, key_by, rank_line}
use Rattle.db_hits.proofs.OrderLaws.{sorted_again}

-- ---- the hits of a cut

pub flat_mapped : {A B : Type 0} (g : B → List ℕ) (f : A → B) (xs : List A) → flat_map g (map f xs) ≡ flat_map (λ x. g (f x)) xs
flat_mapped g f [] = refl
flat_mapped g f (x ∷ xs) = ap (λ (l : List ℕ). g (f x) ++ l) (flat_mapped g f xs)

pub cut_mapped : {A B : Type 0} (f : A → B) (from to : ℕ) (xs : List A) → cut from to (map f xs) ≡ map f (cut from to xs)
cut_mapped f from to xs = ap (drop (from - 1)) (take-map f to xs) ∙ drop-map f (from - 1) (take to xs)

cut_text : (by others : List OrderBy) (first : List Row) (from to : ℕ) → OrderAlike by others
    → flat_map (λ r. rank_line (ranked r)) (cut from to (sorted_by (λ a b. rank_cmp by (ranked a) (ranked b)) first)) ≡ flat_map rank_line (cut from to (sorted_by (rank_cmp others) (map ranked first)))
cut_text by others first from to alike =
    let sorted : List Row = sorted_by (λ a b. rank_cmp others (ranked a) (ranked b)) first in
    let same : sorted_by (λ a b. rank_cmp by (ranked a) (ranked b)) first ≡ sorted = λ i. sorted_by (λ a b. alike (ranked a) (ranked b) i) first in
    ap (λ (l : List Row). flat_map (λ r. rank_line (ranked r)) (cut from to l)) same
    ∙ sym (flat_mapped rank_line ranked (cut from to sorted))
    ∙ ap (flat_map rank_line) (sym (cut_mapped ranked from to sorted))
    ∙ ap (λ (l : List Ranked). flat_map rank_line (cut from to l)) (sym (sorted_through (rank_cmp others) ranked first))

-- what a call printed, by another name
printed_as : (result : Result (Unit {0}) Memory) (before after text other : List ℕ) → text ≡ other → OnOk result (after ≡ before ++ text) → OnOk result (after ≡ before ++ other)
printed_as (Ok done) before after text other same printed = printed ∙ ap (λ (l : List ℕ). before ++ l) same
printed_as (Err fault) before after text other same printed = tt

pub cut_printed : (names : List (List ℕ)) (keys : List HitKey) (from to : ℕ) (by : List OrderBy) (old sorted printed : List Row) (result : Result (Unit {0}) Memory) (before after : List ℕ)
    → OrderAlike by (map (key_by names) keys) → IsPermutation old sorted → AreInOrder by sorted → printed ≡ cut from to sorted
    → OnOk result (after ≡ before ++ flat_map (λ r. rank_line (ranked r)) printed) → PrintsPart names (Hits from to keys) old result before after
cut_printed names keys from to by old sorted printed result before after alike moved up is says first own same =
    let text : flat_map (λ r. rank_line (ranked r)) printed ≡ held_text names (map ranked first) (Hits from to keys) =
    ap (flat_map (λ r. rank_line (ranked r))) (is ∙ ap (cut from to) (sorted_again by first old sorted own same moved up)) ∙ cut_text by (map (key_by names) keys) first from to alike in
    printed_as result before after _ _ text says

-- ---- counts of values, which the order of the rows doesn't change

same_append : (v : Value) (vs ws : List Value) → count_same v (vs ++ ws) ≡ count_same v vs + count_same v ws
same_append v [] ws = omega arith
same_append v (w ∷ vs) ws =
    let one : ℕ = cond (are_same w v) 1 0 in
    let rest : count_same v (vs ++ ws) ≡ count_same v vs + count_same v ws = same_append v vs ws in
    omega (arith, rest)

count_rows : (i : ℕ) (v : Value) (rs : List Ranked) → count_same v (column_values i rs) ≡ sum_by (λ r. count_same v (option_to_list (nth_value i r))) rs
count_rows i v rs =
    is_sum_by (λ rs. count_same v (column_values i rs)) (λ r. count_same v (option_to_list (nth_value i r))) refl
    (λ r rs. same_append v (option_to_list (nth_value i r)) (column_values i rs)) rs

counts_moved : (i : ℕ) (rs moved : List Ranked) → IsPermutation rs moved → value_counts (column_values i moved) ≡ value_counts (column_values i rs)
counts_moved i rs moved same =
    let are : AreCountsOf (column_values i moved) (value_counts (column_values i moved)) = counts_are (column_values i moved) in
    one_list_of_counts (column_values i rs) (value_counts (column_values i moved)) (record {
      rising = are.rising;
      some = are.some;
      exact = λ v.
          are.exact v
          ∙ count_rows i v moved
          ∙ sum_by-IsPermutation (λ (r : Ranked). count_same v (option_to_list (nth_value i r))) rs moved same
          ∙ sym (count_rows i v rs);
    })

pub groups_printed : (names : List (List ℕ)) (column : List ℕ) (i : ℕ) (rows : List Row) (counts : List Count) (result : Result (Unit {0}) Memory) (before after : List ℕ)
    → i ≡ index_in column names → map counted counts ≡ value_counts (column_values i (map ranked rows)) → OnOk result (after ≡ before ++ flat_map group_line (map counted counts))
    → PrintsPart names (Group column) rows result before after
groups_printed names column i rows counts result before after is are says first own same =
    let text : flat_map group_line (map counted counts) ≡ held_text names (map ranked first) (Group column) =
    ap (flat_map group_line)
    (are
    ∙ ap (λ (j : ℕ). value_counts (column_values j (map ranked rows))) is
    ∙ counts_moved (index_in column names) (map ranked first) (map ranked rows) (IsPermutation-map ranked first rows same)) in
    printed_as result before after _ _ text says

pub count_printed : (names : List (List ℕ)) (rows : List Row) (n : ℕ) (result : Result (Unit {0}) Memory) (before after : List ℕ) → n ≡ length rows → OnOk result (after ≡ before ++ count_line n)
    → PrintsPart names CountPart rows result before after
count_printed names rows n result before after is says first own same =
    let many : n ≡ length (map ranked first) = is ∙ length_permutation first rows same ∙ sym (length-map first ranked) in
    printed_as result before after _ _ (ap count_line many) says

-- ---- a part more

pub one_part : (f : ResultPart → List ℕ) (parts : List ResultPart) (i : ℕ) (part : ResultPart) (lines more : List ℕ) → i < length parts → part ≡ get_or parts i part → lines ≡ flat_map f (take i parts)
    → more ≡ lines ++ f part → more ≡ flat_map f (take (i + 1) parts)
one_part f parts i part lines more within is before pushed =
    pushed
    ∙ ap (λ (l : List ℕ). l ++ f part) before
    ∙ ap (λ (p : ResultPart). flat_map f (take i parts) ++ f p) is
    ∙ flat_map_more f [] (take i parts) (get_or parts i part)
    ∙ ap (flat_map f) (sym (take_more parts i part within))

pub all_parts : (f : ResultPart → List ℕ) (parts : List ResultPart) (i : ℕ) (lines : List ℕ) → length parts ≤ i → lines ≡ flat_map f (take i parts) → lines ≡ flat_map f parts
all_parts f parts i lines past before = before ∙ ap (flat_map f) (take_all i parts past)

-- ---- numbers that are in range

either_none : (a b : Bool) → (a || b) ≡ false → (a ≡ false) × (b ≡ false)
either_none true b none = absurd (cc)
either_none false b none = (refl, none)

pub good_at : (parts : List ResultPart) (i : ℕ) (part : ResultPart) → i < length parts → part ≡ get_or parts i part → has_bad_cut parts ≡ false → is_bad_cut part ≡ false
good_at [] i part within is none = absurd (omega (arith, within))
good_at (p ∷ parts) zero part within is none = ap is_bad_cut is ∙ (either_none (is_bad_cut p) (has_bad_cut parts) none).0
good_at (p ∷ parts) (suc i) part within is none = good_at parts i part (omega (arith, within)) is (either_none (is_bad_cut p) (has_bad_cut parts) none).1
