-- The rows that meet conditions, among those that were found.
use Rattle.std.proofs.Common.{◌≡◌, ◌<◌, ◌≤◌, ◌+◌, ◌*◌, ℕ, suc, ℤ, Bool, List, [], ◌∷◌, ◌++◌, length, map, get_or, take, drop, Option, refl, sym, ap, subst, ◌∙◌, add-one, arith}
use Rattle.std.specs.Prelude.{filter}
use Rattle.std.specs.Bool.{if◌then◌else◌}
use Rattle.std.specs.List.{AllByRecursion}
use Rattle.std.specs.Ordering.{int_cmp}
use Rattle.std.specs.FinMap.{entries, get-entries}
use Rattle.std.proofs.lemmas.Cmp.{int_cmp_total}
use Rattle.std.proofs.lemmas.List.{take_all, take_more}
use Rattle.std.proofs.lemmas.List.Elements.{filter-append}
use Rattle.std.proofs.lemmas.List.Sums.{sum_by-append, sum_by-cons}
use Rattle.std.proofs.Math.Nat.{suc-mul}
use Rattle.std.proofs.Math.Seq.{drop-cons}
use Rattle.ct_base.specs.declared.lists.Value.{Value}
use Rattle.ct_keep.specs.laws.RisingKeys.{entries_rise}
use Rattle.ct_keep.specs.laws.FoundKeys.{found_listed}
use Rattle.st_parse.specs.declared.statements.Cond.{Cond}
use Rattle.ct_keep.specs.KeeperViews.{Counts}
use Rattle.tb_table.specs.Tables.{Table, Tables}
use Rattle.ix_search.specs.declared.hits.Hit.{Hit}
use Rattle.ix_search.specs.Hits.{hit_rows}
use Rattle.db_state.specs.States.{StoreState}
use Rattle.db_rows.specs.Values.{values_behind_key}
use Rattle.db_rows.specs.Meeting.{row_meets, key_meets, meeting_keys}
use Rattle.db_rows.specs.Texts.{HasFewerLeft, RisesLeaving, texts_alone, texts_left}
use Rattle.db_rows.specs.Walking.{AreOwn, met_keys}
use Rattle.db_rows.specs.declared.walking.MetRow.{MetRow}
use Rattle.db_rows.specs.laws.Texts.{leaves_still}
use Rattle.db_find.specs.laws.Filtering.{filter_mapped}
use Rattle.db_select.specs.declared.finds.FoundRow.{FoundRow}
use Rattle.db_select.specs.Hits.{HoldOwn, hits_of, rows_left, unscored, unsearched_rows}
use Rattle.db_select.proofs.SelectLaws.{map_map}

-- of the first `i` rows those that meet the conditions were put
pub record AreMet (p : Hit → Bool) (found : List Hit) (i : ℕ) (hits : List Hit) : Type 0 where
  pub are : hits ≡ filter p (take i found)

module _ (p : Hit → Bool) (found : List Hit) where
  pub none_met : AreMet p found 0 []
  none_met = record { are = refl }

  pub one_met : (i : ℕ) (hits more : List Hit) (d : Hit) → AreMet p found i hits → i < length found
      → more ≡ hits ++ (if p (get_or found i d) then get_or found i d ∷ [] else []) → AreMet p found (i + 1) more
  one_met i hits more d before within pushed =
      let h : Hit = get_or found i d in
      record {
        are =
            pushed
            ∙ ap (λ (l : List Hit). l ++ (if p h then h ∷ [] else [])) before.are
            ∙ sym (filter-append p (take i found) (h ∷ []))
            ∙ ap (filter p) (sym (take_more found i d within));
      }

  pub all_met : (i : ℕ) (hits : List Hit) → AreMet p found i hits → length found ≤ i → hits ≡ filter p found
  all_met i hits are past = are.are ∙ ap (filter p) (take_all i found past)

-- ---- with a search

pub met_are : (x : Table) (conds : List Cond) (all met : List Hit) (found : List (ℤ × ℕ)) → hit_rows all ≡ found → met ≡ filter (λ h. key_meets x conds h.key.0) all
    → hit_rows met ≡ filter (λ h. key_meets x conds h.0) found
met_are x conds all met found scored is =
    ap hit_rows is
    ∙ filter_mapped (λ (h : ℤ × ℕ). key_meets x conds h.0) (λ (h : Hit). (h.key.0, h.score)) all
    ∙ ap (filter (λ (h : ℤ × ℕ). key_meets x conds h.0)) scored

-- ---- without one

filter_alike : {X : Type 0} (p q : X → Bool) (xs : List X) → AllByRecursion (λ x. p x ≡ q x) xs → filter p xs ≡ filter q xs
filter_alike p q [] all = refl
filter_alike {X} p q (x ∷ xs) all = λ i. if all.0 i then x ∷ filter_alike p q xs all.1 i else filter_alike p q xs all.1 i

entries_alike : (x : Table) (conds : List Cond) → AllByRecursion (λ e. row_meets x.columns conds e.0 e.1 ≡ key_meets x conds e.0) (entries x.rows)
entries_alike x conds =
    found_listed int_cmp int_cmp_total (λ e. row_meets x.columns conds e.0 e.1 ≡ key_meets x conds e.0) (entries x.rows) (entries_rise int_cmp x.rows)
    (λ r vs found. ap (λ (o : Option (List Value)). row_meets x.columns conds r (values_behind_key o)) (sym (get-entries x.rows r ∙ found)))

-- the keys of rows, with the score 0
paired : (rows : List MetRow) → hit_rows (hits_of (map unscored rows)) ≡ map (λ r. (r, 0)) (map (λ key. key.0) (met_keys rows))
paired [] = refl
paired (row ∷ rows) = ap (λ (l : List (ℤ × ℕ)). (row.key.0, 0) ∷ l) (paired rows)

pub unsearched_are : (m : StoreState) (t : List ℕ) (x : Table) (conds : List Cond) (rows : List MetRow) (all : List FoundRow) → map (λ key. key.0) (met_keys rows) ≡ meeting_keys x conds → all ≡ map unscored rows
    → hit_rows (hits_of all) ≡ unsearched_rows m t x conds
unsearched_are m t x conds rows all met is =
    let pair : ℤ → ℤ × ℕ = λ r. (r, 0) in
    let entry_pair : ℤ × List Value → ℤ × ℕ = λ e. (e.0, 0) in
    let entry_meets : ℤ × List Value → Bool = λ e. row_meets x.columns conds e.0 e.1 in
    ap (λ (l : List FoundRow). hit_rows (hits_of l)) is
    ∙ paired rows
    ∙ ap (map pair) met
    ∙ sym (map_map pair (λ (e : ℤ × List Value). e.0) (filter entry_meets (entries x.rows)))
    ∙ ap (map entry_pair) (filter_alike entry_meets (λ e. key_meets x conds e.0) (entries x.rows) (entries_alike x conds))
    ∙ filter_mapped (λ (h : ℤ × ℕ). key_meets x conds h.0) entry_pair (entries x.rows)

unscored_own : (ts : Tables) (t : List ℕ) (rows : List MetRow) → AreOwn ts t rows → HoldOwn ts t (map unscored rows)
unscored_own ts t [] own = tt
unscored_own ts t (row ∷ rows) own = (own.0, unscored_own ts t rows own.1)

pub unsearched_own : (ts : Tables) (t : List ℕ) (rows : List MetRow) (all : List FoundRow) → all ≡ map unscored rows → AreOwn ts t rows → HoldOwn ts t all
unsearched_own ts t rows all is own = subst (HoldOwn ts t) (sym is) (unscored_own ts t rows own)

-- ---- the texts that are left

-- of the first row, and of the others
pub first_left : (places : List ℕ) (left rest : List FoundRow) (row : FoundRow) → left ≡ row ∷ rest → rows_left places left ≡ texts_left places row.read + rows_left places rest
first_left places left rest row is = ap (rows_left places) is ∙ sum_by-cons (λ (row : FoundRow). texts_left places row.read) row rest

-- of fewer columns
pub fewer_left : (some all : List ℕ) → HasFewerLeft some all → (rows : List FoundRow) → rows_left some rows ≤ rows_left all rows
fewer_left some all fewer [] = omega arith
fewer_left some all fewer (row ∷ rows) =
    let least = sum_by-cons (λ (row : FoundRow). texts_left some row.read) row rows in
    let most = sum_by-cons (λ (row : FoundRow). texts_left all row.read) row rows in
    let first : texts_left some row.read ≤ texts_left all row.read = fewer row.read in
    let others = fewer_left some all fewer rows in
    omega (arith, least, most, first, others)

pub last_left : (places : List ℕ) (rows more : List FoundRow) (row : FoundRow) → more ≡ rows ++ row ∷ [] → rows_left places more ≡ rows_left places rows + texts_left places row.read
last_left places rows more row is =
    let f : FoundRow → ℕ = λ row. texts_left places row.read in
    let both = ap (rows_left places) is ∙ sum_by-append f rows (row ∷ []) in
    let one = sum_by-cons f row [] in
    omega (arith, both, one)

-- a row was tried, and put behind others if it met the conditions
pub note_left : (n left before after : ℕ) (x y : Counts) → after ≡ before + left → RisesLeaving (texts_alone n) left x y → RisesLeaving (texts_alone (before + n)) after x y
note_left n left before after x y parts rises =
    let texts : y.texts + left ≤ x.texts + n = rises.texts in
    record { texts = omega (arith, parts, texts); rows = rises.rows; rules = rises.rules }

-- one row more was tried, of so many that are left
pub one_tried : (most before after n rest k : ℕ) (x y z : Counts) → rest ≡ suc k → RisesLeaving (texts_alone most) (before + rest * n) x y → RisesLeaving (texts_alone (before + n)) after y z
    → RisesLeaving (texts_alone most) (after + k * n) x z
one_tried most before after n rest k x y z is first second =
    let split : rest * n ≡ k * n + n = ap (λ (j : ℕ). j * n) is ∙ suc-mul k n in
    let so_far : y.texts + (before + rest * n) ≤ x.texts + most = first.texts in
    let now : z.texts + after ≤ y.texts + (before + n) = second.texts in
    record { texts = omega (arith, split, so_far, now); rows = omega (arith, first.rows, second.rows); rules = omega (arith, first.rules, second.rules) }

pub none_tried : (n most : ℕ) (c : Counts) (rows : List FoundRow) (places : List ℕ) → rows ≡ [] → RisesLeaving (texts_alone (most * n)) (rows_left places rows + most * n) c c
none_tried n most c rows places none =
    let zero : rows_left places rows ≡ 0 = ap (rows_left places) none in
    leaves_still (most * n) (rows_left places rows + most * n) c (omega (arith, zero))

-- so many are left behind the next
pub fewer_behind : (found : List Hit) (i : ℕ) (d : Hit) → i < length found → length (drop i found) ≡ suc (length (drop (i + 1) found))
fewer_behind found i d within = ap length (drop-cons found i d within) ∙ ap (λ (j : ℕ). suc (length (drop j found))) (sym (add-one i))
