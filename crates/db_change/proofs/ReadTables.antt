-- A table whose columns were read.
use Rattle.std.proofs.Common.{◌≡◌, ◌≤◌, ℕ, List, Vec, Option, Some, length, ap, sym, subst, ◌∙◌}
use Rattle.std.specs.FinMap.{get}
use Rattle.std.specs.Option.{option_map}
use Rattle.std.specs.declared.alloc.Global.{Global}
use Rattle.ct_base.specs.Limits.{column_limit}
use Rattle.tb_table.specs.declared.columns.Column.{Column}
use Rattle.tb_table.specs.Rules.{AreTables}
use Rattle.tb_table.specs.Tables.{Table}
use Rattle.db_state.specs.States.{StoreState}
use Rattle.db_state.specs.laws.Columns.{some_table}

pub record HasColumns (m : StoreState) (t : List ℕ) (columns : List Column) : Type 0 where
  pub table : Table
  pub there : get m.tables t ≡ Some table
  pub same : table.columns ≡ columns
  pub few : length columns ≤ column_limit

-- the call that reads them found some, which are these
pub has_columns : (m : StoreState) (t : List ℕ) (found : Option (Vec Column Global)) (items : Vec Column Global) (columns : List Column) → AreTables m.tables
    → option_map (λ (v : Vec Column Global). v.items) found ≡ option_map (λ (x : Table). x.columns) (get m.tables t) → found ≡ Some items → columns ≡ items.items → HasColumns m t columns
has_columns m t found items columns tables read some are =
    let x = some_table (get m.tables t) items.items (sym (ap (option_map (λ (v : Vec Column Global). v.items)) some) ∙ read) in
    let same : x.0.columns ≡ columns = x.2 ∙ sym are in
    record { table = x.0; there = x.1; same = same; few = subst (λ (cs : List Column). length cs ≤ column_limit) same (tables.each t x.0 x.1).columns.few }
