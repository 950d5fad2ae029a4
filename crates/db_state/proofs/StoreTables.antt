-- The entries that spell tables are ones that a store has.
use Rattle.std.proofs.Common.{◌≡◌, ℕ, ℤ, ◌<◌, ◌≤◌, List, [], ◌∷◌, length, Option, Some, sym, ap, ◌∙◌, arith}
use Rattle.std.specs.FinMap.{get}
use Rattle.ct_base.specs.declared.lists.Value.{Value}
use Rattle.ct_base.specs.declared.lists.Value.TheVariants.{Number as NumberValue, Text as TextValue}
use Rattle.ct_base.specs.Limits.{column_limit}
use Rattle.ct_base.specs.laws.Options.{option_map_some, and_then_some}
use Rattle.ct_keep.specs.Content.{value_limit}
use Rattle.ct_entry.specs.declared.kinds.Kind.TheVariants as kind
use Rattle.ct_entry.specs.Keys.{Key, key, row_part, text_part, IsRow}
use Rattle.tb_table.specs.declared.columns.Column.{Column}
use Rattle.tb_table.specs.Tables.{Table, Tables, row_at, numbers_of, text_in_column}
use Rattle.tb_table.specs.Spelling.{TablesStand, columns_bytes, row_numbers_bytes}
use Rattle.tb_table.specs.Rules.{FitColumns, AreColumns, others, AreTables}
use Rattle.tb_table.specs.Shapes.{HasTableValue}
use Rattle.tb_table.specs.laws.Reading.{are_spellable, row_of_table, numbers_fit}
use Rattle.tb_table.specs.laws.Rules.{short_column}
use Rattle.tb_table.specs.laws.Spelling.{length-row_numbers_bytes}
use Rattle.tb_table.specs.laws.Shapes.{length-few_columns_le}
use Rattle.tb_table.specs.laws.Well.{few_values}
use Rattle.ix_context.specs.laws.Limits.{utf8_column}

-- ---- the numbers of a row

length-numbers_of_le : (vs : List Value) → length (numbers_of vs) ≤ length vs
length-numbers_of_le [] = omega arith
length-numbers_of_le (NumberValue n ∷ vs) = let rest = length-numbers_of_le vs in omega (arith, rest)
length-numbers_of_le (TextValue text ∷ vs) = let rest = length-numbers_of_le vs in omega (arith, rest)

-- they are no more than the columns
few_numbers : (cs : List Column) (vs : List Value) → AreColumns cs → FitColumns (others cs) vs → length (numbers_of vs) ≤ column_limit
few_numbers cs vs are fit =
    let numbers = length-numbers_of_le vs in
    let few = few_values cs vs are fit in
    omega (arith, numbers, few)

-- ---- the entries of tables

module _ (f : Key → Option (List ℕ)) (ts : Tables) (stand : TablesStand f ts) (are : AreTables ts) where
  pub table_value : (t v : List ℕ) → f (key kind.Tables t []) ≡ Some v → HasTableValue (key kind.Tables t []) v × (length v ≤ value_limit)
  table_value t v has =
      let x = option_map_some (λ (x : Table). columns_bytes x.columns) (get ts t) v (sym (stand.tables t) ∙ has) in
      let columns = (are.each t x.0 x.1).columns in
      let spellable = are_spellable x.0.columns columns in
      let long = length-few_columns_le x.0.columns spellable.each columns.few in
      ((x.0.columns, spellable, sym x.2), omega (arith, long, ap length x.2))

  pub numbers_value : (t v : List ℕ) (r : ℤ) → IsRow r → f (key kind.RowNumbers t (row_part r)) ≡ Some v → HasTableValue (key kind.RowNumbers t (row_part r)) v × (length v ≤ value_limit)
  numbers_value t v r row has =
      let vs = option_map_some (λ (vs : List Value). row_numbers_bytes (numbers_of vs)) (row_at ts t r) v (sym (stand.numbers t r row) ∙ has) in
      let x = row_of_table ts t r vs.0 vs.1 in
      let table = are.each t x.table x.here in
      let fit = table.rows r vs.0 x.row in
      let long = length-row_numbers_bytes (numbers_of vs.0) in
      let few = few_numbers x.table.columns vs.0 table.columns fit in
      ((numbers_of vs.0, numbers_fit (others x.table.columns) vs.0 fit, sym vs.2), omega (arith, long, few, ap length vs.2))

  pub text_value : (t v : List ℕ) (c : ℕ) (r : ℤ) → c < 256 → IsRow r → f (key kind.RowTexts t (text_part c r)) ≡ Some v → HasTableValue (key kind.RowTexts t (text_part c r)) v × (length v ≤ value_limit)
  text_value t v c r few row has =
      let vs = and_then_some (λ (vs : List Value). text_in_column vs c) (row_at ts t r) v (sym (stand.texts t c r few row) ∙ has) in
      let x = row_of_table ts t r vs.0 vs.1 in
      let table = are.each t x.table x.here in
      let fit = table.rows r vs.0 x.row in
      let short = short_column x.table.columns vs.0 c v table.columns.each fit vs.2 in
      ((omega (arith, short), utf8_column (others x.table.columns) vs.0 c v fit vs.2), omega (arith, short))
