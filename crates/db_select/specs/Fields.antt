-- The fields of a line, by where they come from.
use Rattle.std.specs.Prelude.{ℕ, ℤ, pos, Bool, true, List, [], ◌∷◌, Option, Some, codes, ◌≡◌, refl}
use Rattle.std.specs.List.{filter_map, list_all}
use Rattle.ct_base.specs.declared.lists.Value.{Value}
use Rattle.ct_base.specs.declared.lists.Value.TheVariants.{Number as NumberValue, Text as TextValue}
use Rattle.ct_keep.specs.KeeperViews.{KeeperView}
use Rattle.ct_keep.specs.Looks.{LooksAtMost}
use Rattle.tb_table.specs.Tables.{Tables}
use Rattle.ix_search.specs.declared.hits.Hit.{Hit}
use Rattle.db_cond.specs.Lines.{line}
use Rattle.db_rows.specs.declared.sources.Source.TheVariants.{Key, Number, Text}
use Rattle.db_rows.specs.Values.{row_values}
use Rattle.db_rows.specs.Sources.{source_value}
use Rattle.db_rows.specs.Texts.{reads_among, texts_alone}
use Rattle.db_select.specs.declared.sources.FieldSource.{FieldSource}
use Rattle.db_select.specs.declared.sources.FieldSource.TheVariants.{Column as OfColumn, Score}

-- the value of a field of a row, by its key, its other values and its score
abbrev pub field_value : ℤ → List Value → ℕ → FieldSource → Option Value
field_value r vs score (OfColumn source) = source_value r vs source
field_value r vs score Score = Some (NumberValue (pos score))

abbrev pub line_fields : List FieldSource → ℤ → List Value → ℕ → List Value
line_fields sources r vs score = filter_map (field_value r vs score) sources

-- ---- what is read of a row

-- the fields of a row that was found, with its score
abbrev pub hit_fields : Tables → List ℕ → List FieldSource → ℤ × ℕ → List Value
hit_fields ts t sources h = line_fields sources h.0 (row_values ts t h.0) h.1

-- the fields of a row as it was found
abbrev pub found_fields : Tables → List ℕ → List FieldSource → Hit → List Value
found_fields ts t sources hit = hit_fields ts t sources (hit.key.0, hit.score)

-- the value of one of its fields, by all its values
abbrev pub found_value : Hit → List Value → FieldSource → Option Value
found_value hit vs source = field_value hit.key.0 vs hit.score source

-- its fields, by all its values, and its line
abbrev pub read_fields : List FieldSource → Hit → List Value → List Value
read_fields sources hit vs = line_fields sources hit.key.0 vs hit.score

abbrev pub read_line : List FieldSource → Hit → List Value → List ℕ
read_line sources hit vs = line (read_fields sources hit vs)

-- ---- the texts that are read

-- what comes from there is a text of one of these columns, or no text
abbrev pub field_among : List ℕ → FieldSource → Bool
field_among places (OfColumn source) = reads_among places source
field_among places Score = true

abbrev pub fields_among : List ℕ → List FieldSource → Bool
fields_among places sources = list_all (field_among places) sources

-- The texts that lines show are of any columns that hold all that these fields ask for: so many of those columns' texts were looked up at most.
abbrev pub ShowsWithin : {K : Type 0} → (K → KeeperView) → K → K → List FieldSource → (List ℕ → ℕ) → Type 0
ShowsWithin view old new sources most = (places : List ℕ) → fields_among places sources ≡ true → LooksAtMost view old new (texts_alone (most places))

-- computed example: of a table with a key, a number and two texts
its_fields : line_fields (OfColumn (Number 0) ∷ OfColumn (Text 3) ∷ Score ∷ OfColumn Key ∷ []) (pos 7) (TextValue (codes "x") ∷ NumberValue (pos 5) ∷ TextValue (codes "y") ∷ []) 2
    ≡ NumberValue (pos 5) ∷ TextValue (codes "y") ∷ NumberValue (pos 2) ∷ NumberValue (pos 7) ∷ []
its_fields = refl
