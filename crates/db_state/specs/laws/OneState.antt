-- A content stands for at most one state, but for what is wasted: its entries determine the tables, their rows, the indexes with their marks, and the thesauri.
use Rattle.std.specs.Prelude.{ℕ, ℤ, suc, ◌<◌, ◌≤◌, ◌≡◌, List, [], ◌∷◌, length, Option, Some, None, refl}
use Rattle.std.specs.Option.{option_map, option_and_then}
use Rattle.std.specs.FinMap.{get, same_map, int_cmp-IsAntisymmetric, nat_cmp-IsAntisymmetric, slice_cmp-IsAntisymmetric}
use Rattle.std.proofs.Common.{sym, ap, subst, ◌∙◌, arith}
use Rattle.std.proofs.lemmas.Cmp.{nat_list_cmp_total, int_cmp_total}
use Rattle.ct_base.specs.declared.lists.Value.{Value}
use Rattle.ct_base.specs.declared.lists.Value.TheVariants.{Number as NumberValue, Text as TextValue}
use Rattle.ct_entry.specs.Keys.{Key, at, IsRow}
use Rattle.ct_entry.specs.Maps.{each_value}
use Rattle.tb_table.specs.declared.columns.Column.{Column}
use Rattle.tb_table.specs.Tables.{Table, Tables, row_in, numbers_of, text_in, text_in_column}
use Rattle.tb_table.specs.Spelling.{TablesStand, columns_bytes, row_numbers_bytes}
use Rattle.tb_table.specs.Rules.{AreTables, FitColumns, others}
use Rattle.tb_table.specs.laws.Spelling.{columns_apart, numbers_apart}
use Rattle.tb_table.specs.laws.Reading.{are_spellable, numbers_fit}
use Rattle.ix_kinds.specs.laws.Telling.{one_indexes}
use Rattle.ix_indexes.specs.Indexes.{kinds, IndexesStand, AreIndexes}
use Rattle.tx_prefs.specs.laws.Values.{one_preferences}
use Rattle.th_store.specs.laws.Changes.{one_thesauri}
use Rattle.db_state.specs.States.{StoreState}
use Rattle.db_state.specs.Promises.{but_wasted, but_for_waste, OneState}
use Rattle.ix_indexes.specs.laws.Indexes.{kinds_laws}

-- ---- the values of a row

-- values of the same columns with the same numbers and texts are one
one_row : (cs : List Column) (vs ws : List Value) → FitColumns cs vs → FitColumns cs ws → numbers_of vs ≡ numbers_of ws → ((place : ℕ) → place < length cs → text_in vs place ≡ text_in ws place) → vs ≡ ws
one_row [] [] [] fit fits numbers texts = refl
one_row [] [] (w ∷ ws) fit fits numbers texts = absurd fits
one_row [] (v ∷ vs) ws fit fits numbers texts = absurd fit
one_row (c ∷ cs) [] ws fit fits numbers texts = absurd fit
one_row (c ∷ cs) (v ∷ vs) [] fit fits numbers texts = absurd fits
one_row (c ∷ cs) (NumberValue a ∷ vs) (NumberValue b ∷ ws) fit fits numbers texts =
    let rest : numbers_of vs ≡ numbers_of ws = cc in
    let more : vs ≡ ws = one_row cs vs ws fit.1 fits.1 rest (λ place less. texts (suc place) (omega (arith, less))) in
    let same : a ≡ b = cc in
    cc
one_row (c ∷ cs) (NumberValue a ∷ vs) (TextValue t ∷ ws) fit fits numbers texts = let wrong : None ≡ Some t = texts 0 (omega arith) in cc
one_row (c ∷ cs) (TextValue s ∷ vs) (NumberValue b ∷ ws) fit fits numbers texts = let wrong : Some s ≡ None = texts 0 (omega arith) in cc
one_row (c ∷ cs) (TextValue s ∷ vs) (TextValue t ∷ ws) fit fits numbers texts =
    let first : Some s ≡ Some t = texts 0 (omega arith) in
    let more : vs ≡ ws = one_row cs vs ws fit.1 fits.1 numbers (λ place less. texts (suc place) (omega (arith, less))) in
    cc

-- ---- tables

table_is : (x y : Table) → x.columns ≡ y.columns → x.rows ≡ y.rows → x ≡ y
table_is x y columns rows i = record { columns = columns i; rows = rows i }

abbrev spelt_columns : Option Table → Option (List ℕ)
spelt_columns o = option_map (λ (x : Table). columns_bytes x.columns) o

abbrev spelt_numbers : Option (List Value) → Option (List ℕ)
spelt_numbers o = option_map (λ (vs : List Value). row_numbers_bytes (numbers_of vs)) o

abbrev text_at : ℕ → Option (List Value) → Option (List ℕ)
text_at c o = option_and_then (λ (vs : List Value). text_in_column vs c) o

module _ (f : Key → Option (List ℕ)) (ts us : Tables) (ts_stand : TablesStand f ts) (us_stand : TablesStand f us) (ts_are : AreTables ts) (us_are : AreTables us) where
  module _ (t : List ℕ) (x y : Table) (here : get ts t ≡ Some x) (there : get us t ≡ Some y) where
    same_columns : x.columns ≡ y.columns
    same_columns =
        let e : Some (columns_bytes x.columns) ≡ Some (columns_bytes y.columns) = sym (ap spelt_columns here) ∙ sym (ts_stand.tables t) ∙ us_stand.tables t ∙ ap spelt_columns there in
        columns_apart x.columns y.columns (are_spellable x.columns (ts_are.each t x here).columns) (are_spellable y.columns (us_are.each t y there).columns) cc

    same_numbers : (r : ℤ) → IsRow r → spelt_numbers (get x.rows r) ≡ spelt_numbers (get y.rows r)
    same_numbers r row = sym (ap (λ o. spelt_numbers (row_in o r)) here) ∙ sym (ts_stand.numbers t r row) ∙ us_stand.numbers t r row ∙ ap (λ o. spelt_numbers (row_in o r)) there

    same_texts : (c : ℕ) (r : ℤ) → c < 256 → IsRow r → text_at c (get x.rows r) ≡ text_at c (get y.rows r)
    same_texts c r small row = sym (ap (λ o. text_at c (row_in o r)) here) ∙ sym (ts_stand.texts t c r small row) ∙ us_stand.texts t c r small row ∙ ap (λ o. text_at c (row_in o r)) there

    few : length (others x.columns) < 17
    few = go x.columns (ts_are.each t x here).columns.few
      where
        go : (cs : List Column) → length cs ≤ 16 → length (others cs) < 17
        go [] h = omega arith
        go (c ∷ cs) h = omega (arith, h)

    same_rows : (r : ℤ) → get x.rows r ≡ get y.rows r
    same_rows r = go (get x.rows r) (get y.rows r) refl refl
      where
        go : (o p : Option (List Value)) → get x.rows r ≡ o → get y.rows r ≡ p → get x.rows r ≡ get y.rows r
        go None None e d = e ∙ sym d
        go None (Some ws) e d =
            let row = (us_are.each t y there).keys r ws d in
            let wrong : None ≡ Some (row_numbers_bytes (numbers_of ws)) = sym (ap spelt_numbers e) ∙ same_numbers r row ∙ ap spelt_numbers d in
            cc
        go (Some vs) None e d =
            let row = (ts_are.each t x here).keys r vs e in
            let wrong : Some (row_numbers_bytes (numbers_of vs)) ≡ None = sym (ap spelt_numbers e) ∙ same_numbers r row ∙ ap spelt_numbers d in
            cc
        go (Some vs) (Some ws) e d =
            let row = (ts_are.each t x here).keys r vs e in
            let fit = (ts_are.each t x here).rows r vs e in
            let fits : FitColumns (others x.columns) ws = subst (λ (cs : List Column). FitColumns (others cs) ws) (sym same_columns) ((us_are.each t y there).rows r ws d) in
            let spelt : Some (row_numbers_bytes (numbers_of vs)) ≡ Some (row_numbers_bytes (numbers_of ws)) = sym (ap spelt_numbers e) ∙ same_numbers r row ∙ ap spelt_numbers d in
            let numbers = numbers_apart (numbers_of vs) (numbers_of ws) (numbers_fit (others x.columns) vs fit) (numbers_fit (others x.columns) ws fits) cc in
            let text : (place : ℕ) → place < length (others x.columns) → text_in vs place ≡ text_in ws place =
            λ place less. sym (ap (text_at (suc place)) e) ∙ same_texts (suc place) r (omega (arith, less, few)) row ∙ ap (text_at (suc place)) d in
            e ∙ ap Some (one_row (others x.columns) vs ws fit fits numbers text) ∙ sym d

  same_tables : (t : List ℕ) → get ts t ≡ get us t
  same_tables t = go (get ts t) (get us t) refl refl
    where
      spelt : spelt_columns (get ts t) ≡ spelt_columns (get us t)
      spelt = sym (ts_stand.tables t) ∙ us_stand.tables t

      go : (o p : Option Table) → get ts t ≡ o → get us t ≡ p → get ts t ≡ get us t
      go None None e d = e ∙ sym d
      go None (Some y) e d = let wrong : None ≡ Some (columns_bytes y.columns) = sym (ap spelt_columns e) ∙ spelt ∙ ap spelt_columns d in cc
      go (Some x) None e d = let wrong : Some (columns_bytes x.columns) ≡ None = sym (ap spelt_columns e) ∙ spelt ∙ ap spelt_columns d in cc
      go (Some x) (Some y) e d = e ∙ ap Some (table_is x y (same_columns t x y e d) (same_map int_cmp_total int_cmp-IsAntisymmetric x.rows y.rows (same_rows t x y e d))) ∙ sym d

  pub one_tables : ts ≡ us
  one_tables = same_map nat_list_cmp_total (slice_cmp-IsAntisymmetric nat_cmp-IsAntisymmetric) ts us same_tables

-- ---- the state

state_is : (m n : StoreState) → m.tables ≡ n.tables → each_value but_wasted m.indexes ≡ each_value but_wasted n.indexes → m.preferences ≡ n.preferences → m.thesauri ≡ n.thesauri → but_for_waste m ≡ but_for_waste n
state_is m n tables indexes preferences thesauri i = record { tables = tables i; indexes = indexes i; preferences = preferences i; thesauri = thesauri i }

pub one_state : OneState
one_state c m n first second =
    let tables = one_tables (at c) m.tables n.tables first.tables second.tables first.state.tables second.state.tables in
    state_is m n tables
    (one_indexes kinds kinds_laws (at c) m.tables m.indexes n.indexes first.state.tables first.indexes
    (subst (λ (ts : Tables). IndexesStand (at c) ts n.indexes) (sym tables) second.indexes) first.state.indexes
    (subst (λ (ts : Tables). AreIndexes ts n.indexes) (sym tables) second.state.indexes))
    (one_preferences (at c) m.preferences n.preferences first.preferences second.preferences first.state.preferences second.state.preferences)
    (one_thesauri (at c) m.thesauri n.thesauri first.thesauri second.thesauri)
