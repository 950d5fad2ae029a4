-- Where the fields of a line come from: a column of the row, or its score.
use Rattle.std.specs.Prelude.{pos, List, [], ◌∷◌, map, codes, ◌≡◌, refl}
use Rattle.st_parse.specs.declared.statements.Item.{Item}
use Rattle.st_parse.specs.declared.statements.Item.TheVariants.{Column as ColumnItem, Score as ScoreItem}
use Rattle.st_parse.specs.declared.statements.Whole.TheVariants.{Fits}
use Rattle.tb_table.specs.declared.columns.Column.{Column}
use Rattle.db_rows.specs.declared.sources.Source.TheVariants.{Key, Text}
use Rattle.db_rows.specs.Sources.{source_of, of_columns}
use Rattle.db_select.specs.declared.sources.FieldSource.{FieldSource}
use Rattle.db_select.specs.declared.sources.FieldSource.TheVariants.{Column as OfColumn, Score}

-- of an item of the list
abbrev pub field_source : List Column → Item → FieldSource
field_source columns (ColumnItem name) = OfColumn (source_of name columns)
field_source columns (ScoreItem label) = Score

-- of a column
abbrev pub column_source : List Column → Column → FieldSource
column_source columns c = OfColumn (source_of c.name columns)

-- computed example: of a table with a key, a number and two texts
its_sources : map (field_source of_columns) (ColumnItem (codes "b") ∷ ScoreItem (Fits (pos 1)) ∷ ColumnItem (codes "id") ∷ []) ≡ OfColumn (Text 3) ∷ Score ∷ OfColumn Key ∷ []
its_sources = refl
