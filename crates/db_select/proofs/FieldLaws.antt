-- The fields of a line are the values of the items of the list.
use Rattle.std.proofs.Common.{◌≡◌, ℕ, ℤ, List, [], ◌∷◌, map, Option, Some, refl, sym, ap, ◌∙◌}
use Rattle.std.specs.List.{filter_map, cons_option}
use Rattle.std.specs.FinMap.{get}
use Rattle.ct_base.specs.declared.lists.Value.{Value}
use Rattle.st_parse.specs.declared.statements.Item.{Item}
use Rattle.st_parse.specs.declared.statements.Item.TheVariants.{Column as ColumnItem, Score as ScoreItem}
use Rattle.tb_table.specs.Tables.{Table, Tables}
use Rattle.tb_table.specs.Rules.{AreTables}
use Rattle.db_rows.specs.Values.{row_values}
use Rattle.db_rows.specs.laws.Sources.{column_from}
use Rattle.db_select.specs.Fields.{field_value, line_fields, hit_fields}
use Rattle.db_select.specs.Listing.{hit_line}
use Rattle.db_select.specs.Ordering.{field}
use Rattle.db_select.specs.Sources.{field_source}

module _ (ts : Tables) (t : List ℕ) (x : Table) (are : AreTables ts) (here : get ts t ≡ Some x) (r : ℤ) (score : ℕ) where
  pub field_is : (item : Item) → field_value r (row_values ts t r) score (field_source x.columns item) ≡ field x.columns r (row_values ts t r) score item
  field_is (ColumnItem name) = sym (column_from ts t x are here r name)
  field_is (ScoreItem label) = refl

  fields_are : (items : List Item) → line_fields (map (field_source x.columns) items) r (row_values ts t r) score ≡ filter_map (field x.columns r (row_values ts t r) score) items
  fields_are [] = refl
  fields_are (item ∷ items) =
      ap (λ (o : Option Value). cons_option o (line_fields (map (field_source x.columns) items) r (row_values ts t r) score)) (field_is item)
      ∙ ap (cons_option (field x.columns r (row_values ts t r) score item)) (fields_are items)

pub hit_line_is : (ts : Tables) (t : List ℕ) (x : Table) (items : List Item) → AreTables ts → get ts t ≡ Some x → (h : ℤ × ℕ) → hit_fields ts t (map (field_source x.columns) items) h ≡ hit_line ts t x.columns items h
hit_line_is ts t x items are here h = fields_are ts t x are here h.0 h.1 items
