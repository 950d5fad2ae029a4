-- The steps of giving rows the values by which they are ordered.
use Rattle.std.proofs.Common.{◌≡◌, ◌≤◌, ◌+◌, ℕ, List, [], ◌∷◌, ◌++◌, sym, ap, subst, ◌∙◌, append_assoc, append-nil, arith}
use Rattle.std.proofs.lemmas.List.Sums.{sum_by-append, sum_by-cons}
use Rattle.ct_keep.specs.KeeperViews.{Counts}
use Rattle.tb_table.specs.Tables.{Tables}
use Rattle.rs_result.specs.declared.rows.ResultRow.{ResultRow}
use Rattle.db_rows.specs.Texts.{RisesLeaving, texts_alone, texts_left}
use Rattle.db_rows.specs.declared.reading.RowRead.{RowRead}
use Rattle.db_select.specs.declared.finds.FoundRow.{FoundRow}
use Rattle.db_select.specs.declared.sources.FieldSource.{FieldSource}
use Rattle.db_select.specs.Hits.{rows_left}
use Rattle.db_select.specs.Ranking.{AreRanked, IsRanked, ranked_left}
use Rattle.db_select.proofs.HitSteps.{first_left}

-- ---- rows with their values

module _ (ts : Tables) (t : List ℕ) (sources : List FieldSource) where
  -- all rows but those that are left have their values
  pub record HaveValues (all left : List FoundRow) (ranked : List (ResultRow RowRead)) : Type 0 where
    pub are : (rest : List (ResultRow RowRead)) → AreRanked ts t sources left rest → AreRanked ts t sources all (ranked ++ rest)

  pub none_ranked : (all left : List FoundRow) (ranked : List (ResultRow RowRead)) → left ≡ all → ranked ≡ [] → HaveValues all left ranked
  none_ranked all left ranked whole none = record {
    are = λ rest are. subst (λ (rs : List (ResultRow RowRead)). AreRanked ts t sources all (rs ++ rest)) (sym none) (subst (λ (rows : List FoundRow). AreRanked ts t sources rows rest) whole are);
  }

  pub one_ranked : (all left rest : List FoundRow) (row : FoundRow) (ranked more : List (ResultRow RowRead)) (r : ResultRow RowRead) → HaveValues all left ranked → left ≡ row ∷ rest → IsRanked ts t sources row r
      → more ≡ ranked ++ r ∷ [] → HaveValues all rest more
  one_ranked all left rest row ranked more r before is given pushed = record {
    are = λ others are.
        let behind : ranked ++ r ∷ others ≡ more ++ others = sym (ap (λ (l : List (ResultRow RowRead)). l ++ others) pushed ∙ append_assoc ranked (r ∷ []) others) in
        subst (AreRanked ts t sources all) behind (before.are (r ∷ others) (subst (λ (rows : List FoundRow). AreRanked ts t sources rows (r ∷ others)) (sym is) (given, are)));
  }

  pub all_ranked : (all left : List FoundRow) (ranked : List (ResultRow RowRead)) → HaveValues all left ranked → left ≡ [] → AreRanked ts t sources all ranked
  all_ranked all left ranked have none =
      subst (AreRanked ts t sources all) (append-nil ranked) (have.are [] (subst (λ (rows : List FoundRow). AreRanked ts t sources rows []) (sym none) tt))

-- ---- the texts that are left

module _ (places : List ℕ) where
  alone_left : (row : FoundRow) → rows_left places (row ∷ []) ≡ texts_left places row.read
  alone_left row = let one = sum_by-cons (λ (row : FoundRow). texts_left places row.read) row [] in omega (arith, one)

  alone_ranked : (r : ResultRow RowRead) → ranked_left places (r ∷ []) ≡ texts_left places r.item
  alone_ranked r = let one = sum_by-cons (λ (r : ResultRow RowRead). texts_left places r.item) r [] in omega (arith, one)

  -- of one row
  pub row_valued : (row : FoundRow) (r : ResultRow RowRead) (x y : Counts) → RisesLeaving (texts_alone (texts_left places row.read)) (texts_left places r.item) x y
      → RisesLeaving (texts_alone (rows_left places (row ∷ []))) (ranked_left places (r ∷ [])) x y
  row_valued row r x y rises =
      let before = alone_left row in
      let after = alone_ranked r in
      let texts : y.texts + texts_left places r.item ≤ x.texts + texts_left places row.read = rises.texts in
      record { texts = omega (arith, before, after, texts); rows = rises.rows; rules = rises.rules }

  pub none_valued : (row : FoundRow) (x y : Counts) → RisesLeaving (texts_alone (texts_left places row.read)) 0 x y → RisesLeaving (texts_alone (rows_left places (row ∷ []))) 0 x y
  none_valued row x y rises =
      let before = alone_left row in
      let texts : y.texts + 0 ≤ x.texts + texts_left places row.read = rises.texts in
      record { texts = omega (arith, before, texts); rows = rises.rows; rules = rises.rules }

  -- one row more of those that are left
  pub one_left : (most : Counts) (left rest : List FoundRow) (row : FoundRow) (ranked more : List (ResultRow RowRead)) (r : ResultRow RowRead) (x y z : Counts) → left ≡ row ∷ rest → more ≡ ranked ++ r ∷ []
      → RisesLeaving most (ranked_left places ranked + rows_left places left) x y → RisesLeaving (texts_alone (rows_left places (row ∷ []))) (ranked_left places (r ∷ [])) y z
      → RisesLeaving most (ranked_left places more + rows_left places rest) x z
  one_left most left rest row ranked more r x y z is pushed first second =
      let f : ResultRow RowRead → ℕ = λ r. texts_left places r.item in
      let before = alone_left row in
      let split = first_left places left rest row is in
      let both : ranked_left places more ≡ ranked_left places ranked + ranked_left places (r ∷ []) = ap (ranked_left places) pushed ∙ sum_by-append f ranked (r ∷ []) in
      let so_far : y.texts + (ranked_left places ranked + rows_left places left) ≤ x.texts + most.texts = first.texts in
      let now : z.texts + ranked_left places (r ∷ []) ≤ y.texts + rows_left places (row ∷ []) = second.texts in
      record { texts = omega (arith, before, split, both, so_far, now); rows = omega (arith, first.rows, second.rows); rules = omega (arith, first.rules, second.rules) }

  -- or a failure at it
  pub none_left : (most : Counts) (left rest : List FoundRow) (row : FoundRow) (given : ℕ) (x y z : Counts) → left ≡ row ∷ rest → RisesLeaving most (given + rows_left places left) x y
      → RisesLeaving (texts_alone (rows_left places (row ∷ []))) 0 y z → RisesLeaving most 0 x z
  none_left most left rest row given x y z is first second =
      let before = alone_left row in
      let split = first_left places left rest row is in
      let so_far : y.texts + (given + rows_left places left) ≤ x.texts + most.texts = first.texts in
      let now : z.texts + 0 ≤ y.texts + rows_left places (row ∷ []) = second.texts in
      record { texts = omega (arith, before, split, so_far, now); rows = omega (arith, first.rows, second.rows); rules = omega (arith, first.rules, second.rules) }
