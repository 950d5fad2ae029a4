-- The first of some names that isn't a column.
use Rattle.std.proofs.Common.{◌≡◌, ℕ, Bool, true, false, cond, List, [], ◌∷◌, ◌++◌, Some, None, refl, ap, ◌∙◌}
use Rattle.st_parse.specs.declared.statements.Item.{Item}
use Rattle.st_parse.specs.declared.statements.Item.TheVariants.{Column as ColumnItem, Score}
use Rattle.st_parse.specs.declared.statements.OrderItem.{OrderItem}
use Rattle.st_parse.specs.declared.statements.Whole.{Whole}
use Rattle.tb_table.specs.declared.columns.Column.{Column}
use Rattle.tb_table.specs.Rules.{has_column}
use Rattle.db_state.specs.Columns.{first_unknown}
use Rattle.db_select.specs.Predicates.{columns_among, order_columns}

-- a column that is there, one that isn't, and a score
pub column_there : (items rest : List Item) (item : Item) (columns : List Column) (name : List ℕ) → items ≡ item ∷ rest → item ≡ ColumnItem name → has_column name columns ≡ true → first_unknown (columns_among items) columns ≡ first_unknown (columns_among rest) columns
column_there items rest item columns name is column there =
    ap (λ (l : List Item). first_unknown (columns_among l) columns) is
    ∙ ap (λ (i : Item). first_unknown (columns_among (i ∷ rest)) columns) column
    ∙ ap (λ (b : Bool). cond b (first_unknown (columns_among rest) columns) (Some name)) there

pub column_missing : (items rest : List Item) (item : Item) (columns : List Column) (name : List ℕ) → items ≡ item ∷ rest → item ≡ ColumnItem name → has_column name columns ≡ false → first_unknown (columns_among items) columns ≡ Some name
column_missing items rest item columns name is column missing =
    ap (λ (l : List Item). first_unknown (columns_among l) columns) is
    ∙ ap (λ (i : Item). first_unknown (columns_among (i ∷ rest)) columns) column
    ∙ ap (λ (b : Bool). cond b (first_unknown (columns_among rest) columns) (Some name)) missing

pub score_passed : (items rest : List Item) (item : Item) (columns : List Column) (own : Whole) → items ≡ item ∷ rest → item ≡ Score own → first_unknown (columns_among items) columns ≡ first_unknown (columns_among rest) columns
score_passed items rest item columns own is score =
    ap (λ (l : List Item). first_unknown (columns_among l) columns) is
    ∙ ap (λ (i : Item). first_unknown (columns_among (i ∷ rest)) columns) score

-- the first name that is unknown, of two lists
pub unknown_first : (names more : List (List ℕ)) (columns : List Column) (name : List ℕ) → first_unknown names columns ≡ Some name → first_unknown (names ++ more) columns ≡ Some name
unknown_first [] more columns name is = cc
unknown_first (n ∷ ns) more columns name is = go (has_column n columns) is (unknown_first ns more columns name)
  where
    go : (b : Bool) → cond b (first_unknown ns columns) (Some n) ≡ Some name → (first_unknown ns columns ≡ Some name → first_unknown (ns ++ more) columns ≡ Some name) → cond b (first_unknown (ns ++ more) columns) (Some n) ≡ Some name
    go true is rest = rest is
    go false is rest = is

pub unknown_second : (names more : List (List ℕ)) (columns : List Column) → first_unknown names columns ≡ None → first_unknown (names ++ more) columns ≡ first_unknown more columns
unknown_second [] more columns is = refl
unknown_second (n ∷ ns) more columns is = go (has_column n columns) is (unknown_second ns more columns)
  where
    go : (b : Bool) → cond b (first_unknown ns columns) (Some n) ≡ None → (first_unknown ns columns ≡ None → first_unknown (ns ++ more) columns ≡ first_unknown more columns) → cond b (first_unknown (ns ++ more) columns) (Some n) ≡ first_unknown more columns
    go true is rest = rest is
    go false is rest = cc

-- an item of an order whose column isn't there, and one that names none or one that is there
pub order_missing : (orders rest : List OrderItem) (o : OrderItem) (columns : List Column) (name : List ℕ) → orders ≡ o ∷ rest → first_unknown (columns_among (o.item ∷ [])) columns ≡ Some name
    → first_unknown (order_columns orders) columns ≡ Some name
order_missing orders rest o columns name is missing =
    ap (λ (os : List OrderItem). first_unknown (order_columns os) columns) is ∙ unknown_first (columns_among (o.item ∷ [])) (order_columns rest) columns name missing

pub order_there : (orders rest : List OrderItem) (o : OrderItem) (columns : List Column) → orders ≡ o ∷ rest → first_unknown (columns_among (o.item ∷ [])) columns ≡ None
    → first_unknown (order_columns orders) columns ≡ first_unknown (order_columns rest) columns
order_there orders rest o columns is there =
    ap (λ (os : List OrderItem). first_unknown (order_columns os) columns) is ∙ unknown_second (columns_among (o.item ∷ [])) (order_columns rest) columns there
