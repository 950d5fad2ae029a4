-- What a SELECT names, and its conditions: the parts of its list and of its predicates.
use Rattle.std.specs.Prelude.{ℕ, pos, ◌≡◌, List, [], ◌∷◌, ◌++◌, map, Option, Some, None, codes, refl}
use Rattle.std.specs.List.{flat_map}
use Rattle.st_parse.specs.declared.statements.Operand.TheVariants.{Number}
use Rattle.st_parse.specs.declared.statements.Compare.TheVariants.{Less}
use Rattle.st_parse.specs.declared.statements.Cond.{Cond}
use Rattle.st_parse.specs.declared.statements.Cond.TheVariants.{Compare}
use Rattle.st_parse.specs.declared.statements.Item.{Item}
use Rattle.st_parse.specs.declared.statements.Item.TheVariants.{Column as ColumnItem, Score}
use Rattle.st_parse.specs.declared.statements.OrderItem.{OrderItem}
use Rattle.st_parse.specs.declared.statements.Pred.{Pred}
use Rattle.st_parse.specs.declared.statements.Pred.TheVariants.{Cond as CondPred, Contains, Catsearch, Matches}
use Rattle.st_parse.specs.declared.statements.SelectList.{SelectList}
use Rattle.st_parse.specs.declared.statements.SelectList.TheVariants.{Star, CountAll, Items}
use Rattle.st_parse.specs.declared.statements.Whole.{Whole}
use Rattle.st_parse.specs.declared.statements.Whole.TheVariants.{Fits}
use Rattle.db_rows.specs.Checking.{cond_column}
use Rattle.db_find.specs.Searches.{Search, search_label}
use Rattle.db_select.specs.Ordering.{down_by}
use Rattle.db_select.specs.Choosing.{Selection, selection}

-- ---- the list

abbrev pub columns_among : List Item → List (List ℕ)
columns_among [] = []
columns_among (ColumnItem name ∷ items) = name ∷ columns_among items
columns_among (Score label ∷ items) = columns_among items

-- the columns that the list names
abbrev pub list_columns : SelectList → List (List ℕ)
list_columns Star = []
list_columns CountAll = []
list_columns (Items items) = columns_among items

-- ---- the predicates

-- the column that the predicate is on
abbrev pub pred_column : Pred → List ℕ
pred_column (CondPred cond) = cond_column cond
pred_column (Contains column query label above) = column
pred_column (Catsearch column query structured) = column
pred_column (Matches column document) = column

-- ---- the order

-- the columns that the items of an order name
abbrev pub order_columns : List OrderItem → List (List ℕ)
order_columns [] = []
order_columns (o ∷ orders) = columns_among (o.item ∷ []) ++ order_columns orders

-- ALL COLUMNS THAT A SELECT NAMES, in the order of its text
abbrev pub named_columns : Selection → List Pred → List (List ℕ)
named_columns want preds = list_columns want.list ++ (map pred_column preds ++ order_columns want.orders)

-- ---- the conditions

-- the condition that the predicate is, if it is one
abbrev pub cond_in : Pred → List Cond
cond_in (CondPred cond) = cond ∷ []
cond_in (Contains column query label above) = []
cond_in (Catsearch column query structured) = []
cond_in (Matches column document) = []

-- the conditions among predicates, in their order
abbrev pub conds_in : List Pred → List Cond
conds_in preds = flat_map cond_in preds

-- the label of the score of the text predicate, if there is one and it has one
abbrev pub label_in : Option Search → Option Whole
label_in None = None
label_in (Some s) = search_label s

-- computed examples: id < 7 AND CONTAINS(body, 'fox') > 0 AND price < 7
abbrev pub below_seven : List ℕ → Cond
below_seven column = Compare column Less (Number (Fits (pos 7)))

abbrev pub fox_and_two : List Pred
fox_and_two = CondPred (below_seven (codes "id")) ∷ Contains (codes "body") (codes "fox") None (Fits (pos 0)) ∷ CondPred (below_seven (codes "price")) ∷ []

its_columns : map pred_column fox_and_two ≡ codes "id" ∷ codes "body" ∷ codes "price" ∷ []
its_columns = refl

its_conditions : conds_in fox_and_two ≡ below_seven (codes "id") ∷ below_seven (codes "price") ∷ []
its_conditions = refl

no_condition : conds_in (Matches (codes "q") (codes "a fox") ∷ []) ≡ []
no_condition = refl

no_column_of_all : list_columns Star ≡ []
no_column_of_all = refl

no_column_of_a_score : list_columns (Items (ColumnItem (codes "id") ∷ Score (Fits (pos 1)) ∷ ColumnItem (codes "body") ∷ [])) ≡ codes "id" ∷ codes "body" ∷ []
no_column_of_a_score = refl

-- SELECT price .. ORDER BY id DESC
all_its_columns : named_columns (selection (Items (ColumnItem (codes "price") ∷ [])) (down_by (codes "id") ∷ [])) fox_and_two
    ≡ codes "price" ∷ codes "id" ∷ codes "body" ∷ codes "price" ∷ codes "id" ∷ []
all_its_columns = refl
