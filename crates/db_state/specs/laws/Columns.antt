-- The columns of a table that was looked up, where it is there.
use Rattle.std.specs.Prelude.{◌≡◌, List, Option, Some, None, refl}
use Rattle.std.specs.Option.{option_map}
use Rattle.tb_table.specs.declared.columns.Column.{Column}
use Rattle.tb_table.specs.Tables.{Table}

pub no_table : (o : Option Table) → None ≡ option_map (λ (x : Table). x.columns) o → o ≡ None
no_table None e = refl
no_table (Some x) e = cc

pub some_table : (o : Option Table) (columns : List Column) → Some columns ≡ option_map (λ (x : Table). x.columns) o → (x : Table) × (o ≡ Some x) × (x.columns ≡ columns)
some_table None columns e = cc
some_table (Some x) columns e = (x, refl, cc)
