-- What calls promise of the tables that a keeper's content spells, by the view of the keeper.
use Rattle.std.specs.Prelude.{ℕ, ℤ, ◌≡◌, ◌+◌, true, List, [], ◌∷◌, map, is_some, Option, Some, pos, codes, refl}
use Rattle.std.specs.List.{slice_get}
use Rattle.std.specs.Option.{option_map, option_and_then}
use Rattle.std.specs.FinMap.{get}
use Rattle.ct_base.specs.declared.lists.Value.{Value}
use Rattle.ct_base.specs.declared.lists.Value.TheVariants.{Number as NumberValue, Text as TextValue}
use Rattle.ct_base.specs.declared.numbers.RowKey.{RowKey}
use Rattle.ct_keep.specs.Content.{Content}
use Rattle.ct_keep.specs.KeeperViews.{KeeperView}
use Rattle.ct_entry.specs.Keys.{Key, at, HasKeysOnly}
use Rattle.ct_entry.specs.Lists.{EachIs}
use Rattle.tb_table.specs.declared.columns.Sort.{Sort}
use Rattle.tb_table.specs.declared.columns.Sort.TheVariants.{Number, Varchar2, Clob}
use Rattle.tb_table.specs.declared.columns.Column.{Column}
use Rattle.tb_table.specs.Tables.{Table, Tables, numbers_of, text_in_column}
use Rattle.tb_table.specs.Spelling.{TablesStand}
use Rattle.tb_table.specs.Rules.{AreTables, others}
use Rattle.ix_kinds.specs.Rows.{table_at}
use Rattle.cat_index.specs.declared.catalogues.Catalogue.{Catalogue}
use Rattle.cat_index.specs.Catalogues.{filing}
use Rattle.cat_index.specs.Changes.{filing_changes, rows_come}
use Rattle.cat_index.specs.Kind.{as_index, create_changes}

-- what holds of the tables that the content spells, which keep their rules, where that is told
abbrev pub OverTables : {K : Type 0} → (K → KeeperView) → K → (Tables → Type 0) → Type 0
OverTables view k holds = (m : Content) (ts : Tables) → (view k).content ≡ Some m → HasKeysOnly m → TablesStand (at m) ts → AreTables ts → holds ts

-- what holds of a row of one of them, which has these columns
abbrev pub OverRow : {K : Type 0} → (K → KeeperView) → K → List ℕ → List Column → ℤ → (List Value → Type 0) → Type 0
OverRow view k t columns r holds = OverTables view k (λ ts. (x : Table) (vs : List Value) → get ts t ≡ Some x → x.columns ≡ columns → get x.rows r ≡ Some vs → holds vs)

-- the same of a row with these numbers, where these are the columns behind the key
abbrev pub OverValues : {K : Type 0} → (K → KeeperView) → K → List ℕ → List Column → List ℤ → ℤ → (List Value → Type 0) → Type 0
OverValues view k t columns numbers r holds =
    OverTables view k (λ ts. (x : Table) (vs : List Value) → get ts t ≡ Some x → others x.columns ≡ columns → get x.rows r ≡ Some vs → numbers ≡ numbers_of vs → holds vs)

-- the table has these rows
abbrev pub AreThere : Table → List RowKey → Type 0
AreThere x rows = EachIs (λ (r : RowKey). is_some (get x.rows r.0) ≡ true) rows

-- ---- what is added for a new catalogue

-- of a row of its table with these columns
abbrev pub AddsRow : {K : Type 0} → (K → KeeperView) → K → List ℕ → Catalogue → List Column → ℤ → (List (Key × Option (List ℕ)) → Type 0) → Type 0
AddsRow view k i x columns r adds = OverRow view k x.target.table columns r (λ vs. adds (filing_changes i r (filing (as_index columns x) r vs) true))

-- of these rows, which its table has
abbrev pub AddsRows : {K : Type 0} → (K → KeeperView) → K → List ℕ → Catalogue → List Column → List RowKey → (List (Key × Option (List ℕ)) → Type 0) → Type 0
AddsRows view k i x columns rows adds =
    OverTables view k (λ ts. (table_at ts x.target.table).columns ≡ columns → AreThere (table_at ts x.target.table) rows → adds (rows_come i (as_index columns x) (table_at ts x.target.table) (map (λ r. r.0) rows)))

-- all of it
abbrev pub created_changes : Tables → List ℕ → Catalogue → List (Key × Option (List ℕ))
created_changes ts i x = create_changes (table_at ts x.target.table) i (as_index (table_at ts x.target.table).columns x)

abbrev pub AddsCreated : {K : Type 0} → (K → KeeperView) → K → List ℕ → Catalogue → (List (Key × Option (List ℕ)) → Type 0) → Type 0
AddsCreated view k i x adds = OverTables view k (λ ts. adds (created_changes ts i x))

-- these are the columns of its table
abbrev pub AreItsColumns : Tables → Catalogue → List Column → Type 0
AreItsColumns ts x columns = columns ≡ (table_at ts x.target.table).columns

-- ---- values of rows

-- the value of a row in a column of this sort at this place: its text, or of its numbers that of this number
abbrev pub text_by : ℕ → Option (List Value) → Option Value
text_by place row = option_map TextValue (option_and_then (λ vs. text_in_column vs place) row)

abbrev pub value_by : Sort → ℕ → List ℤ → ℕ → Option (List Value) → Option Value
value_by Number place numbers before row = option_map NumberValue (slice_get numbers before)
value_by (Varchar2 size) place numbers before row = text_by place row
value_by Clob place numbers before row = text_by place row

-- how many numbers stand before the next column
abbrev pub before_next : Sort → ℕ → ℕ
before_next Number before = before + 1
before_next (Varchar2 size) before = before
before_next Clob before = before

-- computed examples: a row of a text and a number
abbrev a_row : List Value
a_row = TextValue (codes "red") ∷ NumberValue (pos 3) ∷ []

its_text : value_by Clob 1 (pos 3 ∷ []) 0 (Some a_row) ≡ Some (TextValue (codes "red"))
its_text = refl

its_number : value_by Number 2 (pos 3 ∷ []) 0 (Some a_row) ≡ Some (NumberValue (pos 3))
its_number = refl
