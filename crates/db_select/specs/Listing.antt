-- The lines of the rows that a SELECT finds.
use Rattle.std.specs.Prelude.{ℕ, ℤ, pos, List, [], ◌∷◌, length, map, Option, codes, ◌≡◌, refl}
use Rattle.std.specs.List.{filter_map}
use Rattle.std.specs.Fmt.{digits}
use Rattle.ct_base.specs.declared.lists.Value.{Value}
use Rattle.ct_base.specs.declared.lists.Value.TheVariants.{Number, Text}
use Rattle.st_parse.specs.declared.statements.Item.{Item}
use Rattle.st_parse.specs.declared.statements.Item.TheVariants.{Column as ColumnItem, Score}
use Rattle.st_parse.specs.declared.statements.SelectList.{SelectList}
use Rattle.st_parse.specs.declared.statements.SelectList.TheVariants.{Star, CountAll, Items}
use Rattle.st_parse.specs.declared.statements.Whole.TheVariants.{Fits}
use Rattle.tb_table.specs.declared.columns.Column.{Column}
use Rattle.tb_table.specs.Tables.{Tables, docs_columns, docs_alone, row_one}
use Rattle.ix_search.specs.Hits.{hit_rows}
use Rattle.db_cond.specs.Lines.{line}
use Rattle.db_state.specs.Lines.{lines_or_none}
use Rattle.db_rows.specs.Values.{values_behind_key, row_values}
use Rattle.db_select.specs.declared.finds.Selected.{Selected}
use Rattle.db_select.specs.declared.finds.Selected.TheVariants.{Refused, Rows}
use Rattle.db_select.specs.declared.finds.FoundRow.{FoundRow}
use Rattle.db_select.specs.declared.sources.FieldSource.{FieldSource}
use Rattle.db_select.specs.Fields.{found_fields}
use Rattle.db_select.specs.Hits.{hits_of}
use Rattle.db_select.specs.Ordering.{field}
use Rattle.std.proofs.Common.{ap}

-- the line of a row that was found, with its score
abbrev pub hit_line : Tables → List ℕ → List Column → List Item → ℤ × ℕ → List Value
hit_line ts t columns items h = filter_map (field columns h.0 (row_values ts t h.0) h.1) items

abbrev pub all_columns : List Column → List Item
all_columns columns = map (λ c. ColumnItem c.name) columns

-- one line with the number of the rows, also where it is 0; or a line for each row
abbrev pub rows_reply : Tables → List ℕ → List Column → SelectList → List (ℤ × ℕ) → List ℕ
rows_reply ts t columns CountAll hs = line (Number (pos (length hs)) ∷ [])
rows_reply ts t columns Star hs = lines_or_none (map (hit_line ts t columns (all_columns columns)) hs)
rows_reply ts t columns (Items items) hs = lines_or_none (map (hit_line ts t columns items) hs)

-- the lines of rows that were found, by where their fields come from
abbrev pub found_lines : Tables → List ℕ → List FieldSource → List FoundRow → List ℕ
found_lines ts t sources rows = lines_or_none (map (found_fields ts t sources) (hits_of rows))

-- what is replied to what was found, as code holds it: the line of a refusal, or what the list asks of rows
abbrev pub found_reply : Tables → List ℕ → List Column → SelectList → Selected → List ℕ
found_reply ts t columns list (Refused line) = line.items
found_reply ts t columns list (Rows rows) = rows_reply ts t columns list (hit_rows (hits_of rows.items))

-- computed examples: the row 1 of a table `docs` with the columns id, body and price, found with the score 2; the list is id, SCORE(1), body
a_hit : hit_line docs_alone (codes "docs") docs_columns (ColumnItem (codes "id") ∷ Score (Fits (pos 1)) ∷ ColumnItem (codes "body") ∷ []) (pos 1, 2)
    ≡ Number (pos 1) ∷ Number (pos 2) ∷ Text (codes "quick fox quick") ∷ []
a_hit = ap (λ (o : Option (List Value)). filter_map (field docs_columns (pos 1) (values_behind_key o) 2) (ColumnItem (codes "id") ∷ Score (Fits (pos 1)) ∷ ColumnItem (codes "body") ∷ [])) row_one

-- all its columns
a_whole_row : hit_line docs_alone (codes "docs") docs_columns (all_columns docs_columns) (pos 1, 0) ≡ Number (pos 1) ∷ Text (codes "quick fox quick") ∷ Number (pos 0) ∷ []
a_whole_row = ap (λ (o : Option (List Value)). filter_map (field docs_columns (pos 1) (values_behind_key o) 0) (all_columns docs_columns)) row_one

two_counted : rows_reply docs_alone (codes "docs") docs_columns CountAll ((pos 1, 0) ∷ (pos 2, 0) ∷ []) ≡ codes "2\n"
unfolding digits
two_counted = refl

none_counted : rows_reply docs_alone (codes "docs") docs_columns CountAll [] ≡ codes "0\n"
unfolding digits
none_counted = refl

no_line : rows_reply docs_alone (codes "docs") docs_columns Star [] ≡ codes "no rows selected\n"
no_line = refl
