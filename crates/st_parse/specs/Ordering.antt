-- The items of a SELECT's list and of its ORDER BY, as they are spelt and as they are read.
use Rattle.std.specs.Prelude.{ℕ, ◌≡◌, ◌⊎◌, Bool, true, false, pos, List, [], ◌∷◌, ◌++◌, codes, Option, Some, None, refl}
use Rattle.std.proofs.Common.{inl}
use Rattle.st_parse.specs.declared.lexemes.Keyword.TheVariants.{Score as SCORE, From as FROM, And as AND, Order as ORDER, By as BY, Asc as ASC, Desc as DESC}
use Rattle.st_parse.specs.declared.lexemes.Symbol.TheVariants.{Open, Close, Comma}
use Rattle.st_parse.specs.declared.lexemes.Lexeme.{Lexeme}
use Rattle.st_parse.specs.declared.lexemes.Lexeme.TheVariants.{Word, Name, Number, Sign}
use Rattle.st_parse.specs.declared.listing.Separator.TheVariants.{Comma as ByComma}
use Rattle.st_parse.specs.declared.statements.Whole.TheVariants.{Fits}
use Rattle.st_parse.specs.declared.statements.Item.{Item}
use Rattle.st_parse.specs.declared.statements.Item.TheVariants.{Column, Score}
use Rattle.st_parse.specs.declared.statements.OrderItem.{OrderItem}
use Rattle.st_parse.specs.Lexemes.{◌>>=◌}
use Rattle.st_parse.specs.Numbers.{number}
use Rattle.st_parse.specs.Lists.{AreListed, Reader, list_at, ended}

-- These lexemes are this item.
abbrev pub IsSelectItem : List Lexeme → Item → Type 0
IsSelectItem ls (Column name) = ls ≡ Name name ∷ []
IsSelectItem ls (Score label) = (digits : List ℕ) × (label ≡ number digits) × (ls ≡ Word SCORE ∷ Sign Open ∷ Number digits ∷ Sign Close ∷ [])

-- The word for a direction: DESC where the greatest comes first, and else ASC or nothing.
abbrev pub IsDirection : List Lexeme → Bool → Type 0
IsDirection ls true = ls ≡ Word DESC ∷ []
IsDirection ls false = (ls ≡ []) ⊎ (ls ≡ Word ASC ∷ [])

-- These lexemes are this item of an order: an item and a direction.
abbrev pub IsOrder : List Lexeme → OrderItem → Type 0
IsOrder ls order = (item direction : List Lexeme) × IsSelectItem item order.item × IsDirection direction order.down × (ls ≡ item ++ direction)

-- These lexemes are ORDER BY and these items, with commas between them, or nothing where there is none.
abbrev pub AreOrders : List Lexeme → List OrderItem → Type 0
AreOrders ls [] = ls ≡ []
AreOrders ls (o ∷ os) = (list : List Lexeme) × AreListed IsOrder list (o ∷ os) × (ls ≡ Word ORDER ∷ Word BY ∷ list)

-- The same as functions.
abbrev pub score_at : Reader Item
score_at (Sign Open ∷ Number digits ∷ Sign Close ∷ ls) = Some (Score (number digits), ls)
score_at ls = None

abbrev pub item_at : Reader Item
item_at (Name name ∷ ls) = Some (Column name, ls)
item_at (Word SCORE ∷ ls) = score_at ls
item_at ls = None

-- whether the greatest comes first, and what follows the word for it
abbrev pub direction_at : List Lexeme → Bool × List Lexeme
direction_at (Word DESC ∷ ls) = (true, ls)
direction_at (Word ASC ∷ ls) = (false, ls)
direction_at ls = (false, ls)

abbrev pub order_item : Item → Bool → OrderItem
order_item item down = record { item = item; down = down }

-- an item with its direction
abbrev pub directed : Item → Bool × List Lexeme → OrderItem × List Lexeme
directed item found = (order_item item found.0, found.1)

abbrev pub order_at : Reader OrderItem
order_at ls = item_at ls >>= λ item. Some (directed item.0 (direction_at item.1))

-- the items of an ORDER BY, where nothing follows them; none where nothing stands here
abbrev pub orders_of : List Lexeme → Option (List OrderItem)
orders_of [] = Some []
orders_of (Word ORDER ∷ Word BY ∷ ls) = list_at ByComma order_at ls >>= ended
orders_of ls = None

-- computed examples
a_score : item_at (Word SCORE ∷ Sign Open ∷ Number (codes "10") ∷ Sign Close ∷ Word FROM ∷ []) ≡ Some (Score (Fits (pos 10)), Word FROM ∷ [])
a_score = refl

-- ORDER BY score(2) DESC, id, price ASC
three_items : orders_of (Word ORDER ∷ Word BY ∷ Word SCORE ∷ Sign Open ∷ Number (codes "2") ∷ Sign Close ∷ Word DESC ∷ Sign Comma ∷ Name (codes "id")
    ∷ Sign Comma ∷ Name (codes "price") ∷ Word ASC ∷ [])
    ≡ Some (order_item (Score (Fits (pos 2))) true ∷ order_item (Column (codes "id")) false ∷ order_item (Column (codes "price")) false ∷ [])
three_items = refl

are_two : AreOrders (Word ORDER ∷ Word BY ∷ Name (codes "a") ∷ Word DESC ∷ Sign Comma ∷ Name (codes "b") ∷ [])
    (order_item (Column (codes "a")) true ∷ order_item (Column (codes "b")) false ∷ [])
are_two = (
  Name (codes "a") ∷ Word DESC ∷ Sign Comma ∷ Name (codes "b") ∷ [],
  (Name (codes "a") ∷ Word DESC ∷ [], Name (codes "b") ∷ [], refl, (Name (codes "a") ∷ [], Word DESC ∷ [], refl, refl, refl), (Name (codes "b") ∷ [], [], refl, inl refl, refl)),
  refl,
)

no_item : orders_of (Word ORDER ∷ Word BY ∷ []) ≡ None
no_item = refl

no_by : orders_of (Word ORDER ∷ Name (codes "a") ∷ []) ≡ None
no_by = refl

two_directions : orders_of (Word ORDER ∷ Word BY ∷ Name (codes "a") ∷ Word ASC ∷ Word DESC ∷ []) ≡ None
two_directions = refl

by_and : orders_of (Word ORDER ∷ Word BY ∷ Name (codes "a") ∷ Word AND ∷ Name (codes "b") ∷ []) ≡ None
by_and = refl

by_a_number : orders_of (Word ORDER ∷ Word BY ∷ Number (codes "1") ∷ []) ≡ None
by_a_number = refl
