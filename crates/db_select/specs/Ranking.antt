-- Rows with the values by which they are ordered, as code holds them.
use Rattle.std.specs.Prelude.{ℕ, ◌≡◌, true, List, [], ◌∷◌, map, sum_by, Result, Vec}
use Rattle.std.specs.Ordering.{int_cmp}
use Rattle.std.specs.declared.alloc.Global.{Global}
use Rattle.ct_keep.specs.KeeperViews.{KeeperView}
use Rattle.ct_keep.specs.declared.keepers.KeepFault.{KeepFault}
use Rattle.ct_entry.specs.laws.Rows.{keys_rise_by}
use Rattle.st_parse.specs.declared.statements.OrderItem.{OrderItem}
use Rattle.tb_table.specs.declared.columns.Column.{Column}
use Rattle.tb_table.specs.Tables.{Table, Tables}
use Rattle.ix_search.specs.Hits.{hit_rows}
use Rattle.rs_result.specs.declared.rows.ResultRow.{ResultRow}
use Rattle.db_rows.specs.Reading.{IsOwn}
use Rattle.db_rows.specs.Texts.{RisesLeaving, left_by, texts_alone, texts_left}
use Rattle.db_rows.specs.Values.{row_values}
use Rattle.db_rows.specs.declared.reading.RowRead.{RowRead}
use Rattle.db_select.specs.declared.finds.FoundRow.{FoundRow}
use Rattle.db_select.specs.declared.sources.FieldSource.{FieldSource}
use Rattle.db_select.specs.Fields.{fields_among, found_value}
use Rattle.db_select.specs.Hits.{HoldOwn, hits_of, rows_left}
use Rattle.db_select.specs.Ordering.{in_order}
use Rattle.db_select.specs.Sources.{field_source}

abbrev pub order_sources : List Column → List OrderItem → List FieldSource
order_sources columns orders = map (λ o. field_source columns o.item) orders

-- a row without those values
abbrev pub found_of : ResultRow RowRead → FoundRow
found_of row = record { hit = record { key = row.key; score = row.score }; read = row.item }

-- It is the row with the values that come from these places; and what was read of it stays its own.
pub record IsRanked (ts : Tables) (t : List ℕ) (sources : List FieldSource) (row : FoundRow) (ranked : ResultRow RowRead) : Type 0 where
  pub hit : (found_of ranked).hit ≡ row.hit
  pub values : IsOwn ts t row.hit.key row.read → ranked.values.items ≡ map (found_value row.hit (row_values ts t row.hit.key.0)) sources
  pub own : IsOwn ts t row.hit.key row.read → IsOwn ts t row.hit.key ranked.item

-- each of them, one by one
abbrev pub AreRanked : Tables → List ℕ → List FieldSource → List FoundRow → List (ResultRow RowRead) → Type 0
AreRanked ts t sources [] [] = Unit {0}
AreRanked ts t sources [] (r ∷ rs) = ⊥
AreRanked ts t sources (row ∷ rows) [] = ⊥
AreRanked ts t sources (row ∷ rows) (r ∷ rs) = IsRanked ts t sources row r × AreRanked ts t sources rows rs

-- how many texts of these columns are left of all of them
abbrev pub ranked_left : List ℕ → List (ResultRow RowRead) → ℕ
ranked_left places rows = sum_by (λ row. texts_left places row.item) rows

-- Take any columns among which are those of the texts by which rows are ordered: no more of them were looked up than there are fewer left to be read.
abbrev pub RanksWithin : {K R : Type 0} → (K → KeeperView) → K → K → List FieldSource → List FoundRow → Result R KeepFault → (R → List (ResultRow RowRead)) → Type 0
RanksWithin view old new sources rows result ranked =
    (places : List ℕ) → fields_among places sources ≡ true
    → RisesLeaving (texts_alone (rows_left places rows)) (left_by (λ x. ranked_left places (ranked x)) result) (view old).counts (view new).counts

abbrev pub OrdersWithin : {K : Type 0} → (K → KeeperView) → K → K → List FieldSource → List FoundRow → Result (Vec FoundRow Global) KeepFault → Type 0
OrdersWithin view old new sources rows result =
    (places : List ℕ) → fields_among places sources ≡ true
    → RisesLeaving (texts_alone (rows_left places rows)) (left_by (λ found. rows_left places found.items) result) (view old).counts (view new).counts

-- where what was read of rows is their own, and their keys strictly rise: these are they in the order asked for
abbrev pub OrdersRows : Tables → List ℕ → Table → List OrderItem → List FoundRow → List FoundRow → Type 0
OrdersRows ts t x orders rows found =
    HoldOwn ts t rows → keys_rise_by int_cmp (map (λ h. h.0) (hit_rows (hits_of rows))) ≡ true → hit_rows (hits_of found) ≡ in_order x orders (hit_rows (hits_of rows))

-- computed example: without rows there is nothing to order
no_rows : (ts : Tables) (t : List ℕ) (sources : List FieldSource) → AreRanked ts t sources [] []
no_rows ts t sources = tt
