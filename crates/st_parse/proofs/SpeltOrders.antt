-- The items of a list and of an order are read as they are spelt.
use Rattle.std.proofs.Common.{◌≡◌, inl, inr, Bool, true, false, append_assoc, append-nil, List, [], ◌∷◌, ◌++◌, refl, sym, ap, subst, ◌∙◌, Option, Some, None}
use Rattle.st_parse.specs.declared.lexemes.Keyword.TheVariants.{Score as SCORE, From as FROM, Where as WHERE, And as AND, Order as ORDER, By as BY, Asc as ASC, Desc as DESC}
use Rattle.st_parse.specs.declared.lexemes.Symbol.TheVariants.{Open, Close, Comma}
use Rattle.st_parse.specs.declared.lexemes.Lexeme.{Lexeme}
use Rattle.st_parse.specs.declared.lexemes.Lexeme.TheVariants.{Word, Name, Number, Sign}
use Rattle.st_parse.specs.declared.listing.Separator.TheVariants.{Comma as ByComma}
use Rattle.st_parse.specs.declared.statements.Item.{Item}
use Rattle.st_parse.specs.declared.statements.Item.TheVariants.{Column, Score}
use Rattle.st_parse.specs.declared.statements.OrderItem.{OrderItem}
use Rattle.st_parse.specs.Lexemes.{◌>>=◌}
use Rattle.st_parse.specs.Lists.{AreListed, list_at, ended}
use Rattle.st_parse.specs.Ordering.{IsSelectItem, IsDirection, IsOrder, AreOrders, score_at, item_at, direction_at, directed, order_at, orders_of}
use Rattle.st_parse.proofs.Spelt.{Spelt, Wholly, Follows, EndsWhere, last-spelt, list_at-spelt, list_at-again}

score-spelt : (ls : List Lexeme) → Spelt IsSelectItem (score_at ls) (Word SCORE ∷ ls)
score-spelt (Sign Open ∷ Number digits ∷ Sign Close ∷ ls) = (Word SCORE ∷ Sign Open ∷ Number digits ∷ Sign Close ∷ [], (digits, refl, refl), refl)
score-spelt ls = tt

pub item-spelt : (ls : List Lexeme) → Spelt IsSelectItem (item_at ls) ls
item-spelt (Name name ∷ ls) = (Name name ∷ [], refl, refl)
item-spelt (Word SCORE ∷ ls) = score-spelt ls
item-spelt ls = tt

-- whatever follows it
item-first : (prefix rest : List Lexeme) (item : Item) → IsSelectItem prefix item → item_at (prefix ++ rest) ≡ Some (item, rest)
item-first prefix rest (Column name) e = ap (λ x. item_at (x ++ rest)) e
item-first prefix rest (Score label) (digits, value, e) = ap (λ x. item_at (x ++ rest)) e ∙ ap (λ x. Some (Score x, rest)) (sym value)

pub item-again : (prefix rest : List Lexeme) (item : Item) → IsSelectItem prefix item → Follows rest → item_at (prefix ++ rest) ≡ Some (item, rest)
item-again prefix rest item is follows = item-first prefix rest item is

-- the lexemes of a direction and what follows them
abbrev Directed : Bool × List Lexeme → List Lexeme → Type 0
Directed found ls = (direction : List Lexeme) × IsDirection direction found.0 × (ls ≡ direction ++ found.1)

direction-spelt : (ls : List Lexeme) → Directed (direction_at ls) ls
direction-spelt (Word DESC ∷ ls) = (Word DESC ∷ [], refl, refl)
direction-spelt (Word ASC ∷ ls) = (Word ASC ∷ [], inr refl, refl)
direction-spelt ls = ([], inl refl, refl)

no-direction : (rest : List Lexeme) → Follows rest → direction_at rest ≡ (false, rest)
no-direction [] follows = refl
no-direction (Sign Comma ∷ ls) follows = refl
no-direction (Sign Close ∷ ls) follows = refl
no-direction (Word FROM ∷ ls) follows = refl
no-direction (Word WHERE ∷ ls) follows = refl
no-direction (Word AND ∷ ls) follows = refl
no-direction (Word ORDER ∷ ls) follows = refl
no-direction ls follows = absurd follows

direction-again : (direction rest : List Lexeme) (down : Bool) → IsDirection direction down → Follows rest → direction_at (direction ++ rest) ≡ (down, rest)
direction-again direction rest true e follows = ap (λ x. direction_at (x ++ rest)) e
direction-again direction rest false (inl e) follows = ap (λ x. direction_at (x ++ rest)) e ∙ no-direction rest follows
direction-again direction rest false (inr e) follows = ap (λ x. direction_at (x ++ rest)) e

directed-spelt : (o : Option (Item × List Lexeme)) (ls : List Lexeme) → Spelt IsSelectItem o ls
    → Spelt IsOrder (o >>= λ item. Some (directed item.0 (direction_at item.1))) ls
directed-spelt None ls is = tt
directed-spelt (Some (item, rest)) ls (prefix, is, e) =
    let more = direction-spelt rest in
    (prefix ++ more.0, (prefix, more.0, is, more.1, refl), e ∙ ap (λ x. prefix ++ x) more.2 ∙ sym (append_assoc prefix more.0 (direction_at rest).1))

order-spelt : (ls : List Lexeme) → Spelt IsOrder (order_at ls) ls
order-spelt ls = directed-spelt (item_at ls) ls (item-spelt ls)

order-again : (prefix rest : List Lexeme) (order : OrderItem) → IsOrder prefix order → Follows rest → order_at (prefix ++ rest) ≡ Some (order, rest)
order-again prefix rest order (item, direction, is, way, e) follows =
    ap order_at (ap (λ x. x ++ rest) e ∙ append_assoc item direction rest)
    ∙ ap (λ o. o >>= λ found. Some (directed found.0 (direction_at found.1))) (item-first item (direction ++ rest) order.item is)
    ∙ ap (λ found. Some (directed order.item found)) (direction-again direction rest order.down way follows)

some-orders : (o : Option (List OrderItem)) (ls : List Lexeme) → Wholly (AreListed IsOrder) o ls → Wholly AreOrders o (Word ORDER ∷ Word BY ∷ ls)
some-orders None ls are = tt
some-orders (Some []) ls are = absurd are
some-orders (Some (o ∷ os)) ls are = (ls, are, refl)

pub orders-spelt : (ls : List Lexeme) → Wholly AreOrders (orders_of ls) ls
orders-spelt [] = refl
orders-spelt (Word ORDER ∷ Word BY ∷ ls) =
    some-orders (list_at ByComma order_at ls >>= ended) ls
    (last-spelt IsOrder order_at order-spelt (AreListed IsOrder) (list_at ByComma order_at ls) ls (list_at-spelt IsOrder order_at order-spelt ByComma ls))
orders-spelt ls = tt

pub orders-again : (ls : List Lexeme) (orders : List OrderItem) → AreOrders ls orders → orders_of ls ≡ Some orders
orders-again ls [] e = ap orders_of e
orders-again ls (o ∷ os) (list, are, e) =
    ap orders_of (e ∙ ap (λ x. Word ORDER ∷ Word BY ∷ x) (sym (append-nil list)))
    ∙ ap (λ found. found >>= ended) (list_at-again IsOrder order_at order-again ByComma list [] (o ∷ os) are tt tt)

-- an order may stand behind a WHERE
pub orders-follow : (ls : List Lexeme) (orders : List OrderItem) → AreOrders ls orders → EndsWhere ls
orders-follow ls [] e = subst EndsWhere (sym e) tt
orders-follow ls (o ∷ os) (list, are, e) = subst EndsWhere (sym e) tt
