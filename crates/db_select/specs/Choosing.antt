-- What a SELECT wants of the rows that it finds: what it gives of each, and their order.
use Rattle.std.specs.Prelude.{◌≡◌, Bool, true, false, not, filter, pos, List, [], ◌∷◌, codes, refl}
use Rattle.std.specs.List.{list_any}
use Rattle.ct_entry.specs.Keys.{same_list}
use Rattle.st_parse.specs.declared.statements.Item.{Item}
use Rattle.st_parse.specs.declared.statements.Item.TheVariants.{Column as ColumnItem, Score}
use Rattle.st_parse.specs.declared.statements.OrderItem.{OrderItem}
use Rattle.st_parse.specs.declared.statements.SelectList.{SelectList}
use Rattle.st_parse.specs.declared.statements.SelectList.TheVariants.{Star, CountAll, Items}
use Rattle.st_parse.specs.declared.statements.Whole.TheVariants.{Fits}
use Rattle.cat_where.specs.declared.stages.Where.{Where}
use Rattle.db_select.specs.Ordering.{down_by}

-- its list, and the items of its own ORDER BY
pub record Selection : Type 0 where
  pub list : SelectList
  pub orders : List OrderItem

abbrev pub selection : SelectList → List OrderItem → Selection
selection list orders = record { list = list; orders = orders }

-- Two items name the same column, or are both the score.
abbrev pub same_item : Item → Item → Bool
same_item (ColumnItem a) (ColumnItem b) = same_list a b
same_item (ColumnItem a) (Score b) = false
same_item (Score a) (ColumnItem b) = false
same_item (Score a) (Score b) = true

-- One of them names what this one names.
abbrev pub is_repeated : List OrderItem → OrderItem → Bool
is_repeated orders o = list_any (λ p. same_item p.item o.item) orders

-- Items without those that name what one before them names: rows that tie in the first tie in these too.
abbrev pub first_items : List OrderItem → List OrderItem
first_items [] = []
first_items (o ∷ orders) = o ∷ filter (λ p. not (same_item o.item p.item)) (first_items orders)

-- some items, or the others where there is none
abbrev pub own_or : List OrderItem → List OrderItem → List OrderItem
own_or [] others = others
own_or (o ∷ own) others = o ∷ own

-- What rows are ordered by, where a structured query asks for the others: by nothing where they are only counted, and else by the SELECT's own items, which
-- replace the others; by each column, and by the score, once.
abbrev pub chosen_order : SelectList → List OrderItem → List OrderItem → List OrderItem
chosen_order CountAll own others = []
chosen_order Star own others = first_items (own_or own others)
chosen_order (Items items) own others = first_items (own_or own others)

-- what is asked of the rows of a search by its structured query and by the SELECT
abbrev pub asked_by : Selection → Where → Where
asked_by want asked = record { conds = asked.conds; orders = chosen_order want.list want.orders asked.orders }

-- computed examples
its_own : chosen_order Star (down_by (codes "price") ∷ []) (down_by (codes "id") ∷ []) ≡ down_by (codes "price") ∷ []
its_own = refl

of_the_search : chosen_order (Items (ColumnItem (codes "id") ∷ [])) [] (down_by (codes "id") ∷ []) ≡ down_by (codes "id") ∷ []
of_the_search = refl

a_count : chosen_order CountAll (down_by (codes "price") ∷ []) (down_by (codes "id") ∷ []) ≡ []
a_count = refl

-- ORDER BY price DESC, id, price, SCORE(1), id DESC, SCORE(1) DESC
abbrev up_by : Item → OrderItem
up_by item = record { item = item; down = false }

each_once : first_items (down_by (codes "price") ∷ up_by (ColumnItem (codes "id")) ∷ up_by (ColumnItem (codes "price")) ∷ up_by (Score (Fits (pos 1)))
    ∷ down_by (codes "id") ∷ record { item = Score (Fits (pos 1)); down = true } ∷ [])
    ≡ down_by (codes "price") ∷ up_by (ColumnItem (codes "id")) ∷ up_by (Score (Fits (pos 1))) ∷ []
each_once = refl
