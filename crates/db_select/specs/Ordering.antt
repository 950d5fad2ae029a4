-- The order in which rows that were found are given.
use Rattle.std.specs.Prelude.{ℕ, ℤ, pos, suc, ◌≡◌, true, false, List, [], ◌∷◌, map, Option, Some, codes, refl}
use Rattle.std.specs.FinMap.{get}
use Rattle.ct_base.specs.declared.lists.Value.{Value}
use Rattle.ct_base.specs.declared.lists.Value.TheVariants.{Number}
use Rattle.st_parse.specs.declared.statements.Item.{Item}
use Rattle.st_parse.specs.declared.statements.Item.TheVariants.{Column as ColumnItem, Score}
use Rattle.st_parse.specs.declared.statements.OrderItem.{OrderItem}
use Rattle.tb_table.specs.declared.columns.Column.{Column}
use Rattle.tb_table.specs.Tables.{Table}
use Rattle.rs_result.specs.declared.rows.By.TheVariants.{Column as ByValue}
use Rattle.rs_result.specs.declared.rows.OrderBy.{OrderBy}
use Rattle.rs_result.specs.Comparing.{Ranked, rank_cmp}
use Rattle.rs_result.specs.Sorting.{sorted_by}
use Rattle.db_rows.specs.Values.{value_of_column, values_behind_key}

-- the value of an item, of a row with this key, these other values and this score
abbrev pub field : List Column → ℤ → List Value → ℕ → Item → Option Value
field columns r vs score (ColumnItem name) = value_of_column columns r vs name
field columns r vs score (Score label) = Some (Number (pos score))

-- by the values of the items from this number on, each up or down
abbrev pub keys_from : ℕ → List OrderItem → List OrderBy
keys_from i [] = []
keys_from i (o ∷ os) = record { by = ByValue i; down = o.down } ∷ keys_from (suc i) os

-- A row by what it is ordered by: the values of the items, and its key, by which rows stand that are the same in all of them.
abbrev pub rank : Table → List OrderItem → ℤ × ℕ → Ranked
rank x orders h = record { key = h.0; score = h.1; values = map (λ o. field x.columns h.0 (values_behind_key (get x.rows h.0)) h.1 o.item) orders }

-- ROWS IN THE ORDER ASKED FOR: by the first item, those that are the same in it by the second, and so on. Without items they stay as they are.
abbrev pub in_order : Table → List OrderItem → List (ℤ × ℕ) → List (ℤ × ℕ)
in_order x [] hs = hs
in_order x (o ∷ os) hs = sorted_by (λ a b. rank_cmp (keys_from 0 (o ∷ os)) (rank x (o ∷ os) a) (rank x (o ∷ os) b)) hs

-- ---- computed examples

abbrev pub down_by : List ℕ → OrderItem
down_by name = record { item = ColumnItem name; down = true }

as_they_are : (x : Table) (hs : List (ℤ × ℕ)) → in_order x [] hs ≡ hs
as_they_are x hs = refl

first_and_second : keys_from 0 (down_by (codes "price") ∷ record { item = ColumnItem (codes "id"); down = false } ∷ [])
    ≡ record { by = ByValue 0; down = true } ∷ record { by = ByValue 1; down = false } ∷ []
first_and_second = refl
