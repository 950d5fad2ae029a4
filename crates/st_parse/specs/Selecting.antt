-- SELECT, as it is spelt and as it is read.
use Rattle.std.specs.Prelude.{ℕ, ◌≡◌, Bool, true, false, nat_le, count_by, pos, List, [], ◌∷◌, ◌++◌, codes, Option, Some, None, refl}
use Rattle.std.specs.Bool.{if◌then◌else◌}
use Rattle.std.specs.Ordering.{int_eq}
use Rattle.st_parse.specs.declared.lexemes.Keyword.TheVariants.{Count as COUNT, From as FROM, And as AND, Order as ORDER, By as BY, Desc as DESC, Contains as CONTAINS, Catsearch as CATSEARCH, Matches as MATCHES, Null as NULL}
use Rattle.st_parse.specs.declared.lexemes.Symbol.TheVariants.{Open, Close, Comma, Star, Greater}
use Rattle.st_parse.specs.declared.lexemes.Lexeme.{Lexeme}
use Rattle.st_parse.specs.declared.lexemes.Lexeme.TheVariants.{Word, Name, Text, Number, Sign}
use Rattle.st_parse.specs.declared.listing.Separator.TheVariants.{Comma as ByComma}
use Rattle.st_parse.specs.declared.statements.Whole.{Whole}
use Rattle.st_parse.specs.declared.statements.Whole.TheVariants.{Fits, Beyond}
use Rattle.st_parse.specs.declared.statements.Item.{Item}
use Rattle.st_parse.specs.declared.statements.Item.TheVariants.{Column}
use Rattle.st_parse.specs.declared.statements.OrderItem.{OrderItem}
use Rattle.st_parse.specs.declared.statements.Pred.{Pred}
use Rattle.st_parse.specs.declared.statements.Pred.TheVariants.{Cond, Contains, Catsearch, Matches}
use Rattle.st_parse.specs.declared.statements.SelectList.{SelectList}
use Rattle.st_parse.specs.declared.statements.SelectList.TheVariants.{Star as AllColumns, CountAll, Items}
use Rattle.st_parse.specs.declared.statements.Statement.{Statement}
use Rattle.st_parse.specs.declared.statements.Statement.TheVariants.{Select}
use Rattle.st_parse.specs.Lexemes.{◌>>=◌}
use Rattle.st_parse.specs.Numbers.{number}
use Rattle.st_parse.specs.Lists.{AreListed, Reader, list_at, where_at}
use Rattle.st_parse.specs.Ordering.{IsSelectItem, item_at, order_item, orders_of}
use Rattle.st_parse.specs.Conditions.{IsCond, cond_at}

abbrev pub IsSelectList : List Lexeme → SelectList → Type 0
IsSelectList ls AllColumns = ls ≡ Sign Star ∷ []
IsSelectList ls CountAll = ls ≡ Word COUNT ∷ Sign Open ∷ Sign Star ∷ Sign Close ∷ []
IsSelectList ls (Items items) = AreListed IsSelectItem ls items

-- a comma and a label, or nothing
abbrev pub IsLabel : List Lexeme → Option Whole → Type 0
IsLabel ls None = ls ≡ []
IsLabel ls (Some label) = (digits : List ℕ) × (label ≡ number digits) × (ls ≡ Sign Comma ∷ Number digits ∷ [])

-- the structured query of CATSEARCH, or NULL where there is none
abbrev pub structured_lexeme : Option (List ℕ) → Lexeme
structured_lexeme None = Word NULL
structured_lexeme (Some text) = Text text

-- These lexemes are this predicate. The number of CATSEARCH and of MATCHES is 0.
abbrev pub IsPred : List Lexeme → Pred → Type 0
IsPred ls (Cond cond) = IsCond ls cond
IsPred ls (Contains column query label above) =
    (labels : List Lexeme) × ((digits : List ℕ) × IsLabel labels label × (above ≡ number digits)
    × (ls ≡ Word CONTAINS ∷ Sign Open ∷ Name column ∷ Sign Comma ∷ Text query ∷ (labels ++ Sign Close ∷ Sign Greater ∷ Number digits ∷ [])))
IsPred ls (Catsearch column query structured) =
    (digits : List ℕ) × (number digits ≡ Fits (pos 0))
    × (ls ≡ Word CATSEARCH ∷ Sign Open ∷ Name column ∷ Sign Comma ∷ Text query ∷ Sign Comma ∷ structured_lexeme structured ∷ Sign Close ∷ Sign Greater ∷ Number digits ∷ [])
IsPred ls (Matches column document) =
    (digits : List ℕ) × (number digits ≡ Fits (pos 0))
    × (ls ≡ Word MATCHES ∷ Sign Open ∷ Name column ∷ Sign Comma ∷ Text document ∷ Sign Close ∷ Sign Greater ∷ Number digits ∷ [])

-- Whether a predicate is a search, and no condition. A SELECT has at most one.
abbrev pub is_search : Pred → Bool
is_search (Cond cond) = false
is_search pred = true

-- The same as functions.
abbrev pub items_at : Reader SelectList
items_at ls = list_at ByComma item_at ls >>= λ items. Some (Items items.0, items.1)

-- what follows COUNT
abbrev pub count_at : Reader SelectList
count_at (Sign Open ∷ Sign Star ∷ Sign Close ∷ ls) = Some (CountAll, ls)
count_at ls = None

abbrev pub select_list_at : Reader SelectList
select_list_at (Sign Star ∷ ls) = Some (AllColumns, ls)
select_list_at (Word COUNT ∷ ls) = count_at ls
select_list_at ls = items_at ls

abbrev pub label_at : List Lexeme → Option Whole × List Lexeme
label_at (Sign Comma ∷ Number digits ∷ ls) = (Some (number digits), ls)
label_at ls = (None, ls)

-- the column and the text of a search
abbrev pub searched_at : Reader (List ℕ × List ℕ)
searched_at (Sign Open ∷ Name column ∷ Sign Comma ∷ Text text ∷ ls) = Some ((column, text), ls)
searched_at ls = None

-- the end of a search, with its number
abbrev pub threshold_at : Reader Whole
threshold_at (Sign Close ∷ Sign Greater ∷ Number digits ∷ ls) = Some (number digits, ls)
threshold_at ls = None

-- what follows CONTAINS, by its column and its text
abbrev pub above_at : List ℕ → List ℕ → Option Whole × List Lexeme → Option (Pred × List Lexeme)
above_at column query found = threshold_at found.1 >>= λ above. Some (Contains column query found.0 above.0, above.1)

abbrev pub contains_at : Reader Pred
contains_at ls = searched_at ls >>= λ searched. above_at searched.0.0 searched.0.1 (label_at searched.1)

-- the structured query, behind its comma
abbrev pub structured_at : Reader (Option (List ℕ))
structured_at (Sign Comma ∷ Word NULL ∷ ls) = Some (None, ls)
structured_at (Sign Comma ∷ Text text ∷ ls) = Some (Some text, ls)
structured_at ls = None

abbrev pub is_zero : Whole → Bool
is_zero (Fits n) = int_eq n (pos 0)
is_zero Beyond = false

-- a search that asks for a score above 0, by what stands behind its texts
abbrev pub above_zero_at : Pred → List Lexeme → Option (Pred × List Lexeme)
above_zero_at pred ls = threshold_at ls >>= λ above. if is_zero above.0 then Some (pred, above.1) else None

-- what follows CATSEARCH
abbrev pub catsearch_at : Reader Pred
catsearch_at ls = searched_at ls >>= λ searched. structured_at searched.1 >>= λ found. above_zero_at (Catsearch searched.0.0 searched.0.1 found.0) found.1

-- what follows MATCHES
abbrev pub matches_at : Reader Pred
matches_at ls = searched_at ls >>= λ searched. above_zero_at (Matches searched.0.0 searched.0.1) searched.1

abbrev pub pred_at : Reader Pred
pred_at (Word CONTAINS ∷ ls) = contains_at ls
pred_at (Word CATSEARCH ∷ ls) = catsearch_at ls
pred_at (Word MATCHES ∷ ls) = matches_at ls
pred_at ls = cond_at ls >>= λ cond. Some (Cond cond.0, cond.1)

abbrev pub select_by : SelectList → List ℕ → List Pred → List OrderItem → Option Statement
select_by list table preds orders = if nat_le (count_by is_search preds) 1 then Some (Select list table preds orders) else None

-- what follows the predicates
abbrev pub ordered_of : SelectList → List ℕ → List Pred × List Lexeme → Option Statement
ordered_of list table found = orders_of found.1 >>= select_by list table found.0

-- what follows the list
abbrev pub from_of : SelectList → List Lexeme → Option Statement
from_of list (Word FROM ∷ Name table ∷ ls) = where_at pred_at ls >>= ordered_of list table
from_of list ls = None

-- what follows SELECT
abbrev pub select_of : List Lexeme → Option Statement
select_of ls = select_list_at ls >>= λ list. from_of list.0 list.1

-- computed examples
all_rows : select_of (Sign Star ∷ Word FROM ∷ Name (codes "t") ∷ []) ≡ Some (Select AllColumns (codes "t") [] [])
all_rows = refl

in_order : select_of (Sign Star ∷ Word FROM ∷ Name (codes "t") ∷ Word ORDER ∷ Word BY ∷ Name (codes "a") ∷ Word DESC ∷ [])
    ≡ Some (Select AllColumns (codes "t") [] (order_item (Column (codes "a")) true ∷ []))
in_order = refl

row_count : select_of (Word COUNT ∷ Sign Open ∷ Sign Star ∷ Sign Close ∷ Word FROM ∷ Name (codes "t") ∷ []) ≡ Some (Select CountAll (codes "t") [] [])
row_count = refl

a_count_among_items : select_of (Name (codes "a") ∷ Sign Comma ∷ Word COUNT ∷ Sign Open ∷ Sign Star ∷ Sign Close ∷ Word FROM ∷ Name (codes "t") ∷ []) ≡ None
a_count_among_items = refl

with_a_label : pred_at (Word CONTAINS ∷ Sign Open ∷ Name (codes "body") ∷ Sign Comma ∷ Text (codes "fox")
    ∷ Sign Comma ∷ Number (codes "2") ∷ Sign Close ∷ Sign Greater ∷ Number (codes "50") ∷ Word AND ∷ [])
    ≡ Some (Contains (codes "body") (codes "fox") (Some (Fits (pos 2))) (Fits (pos 50)), Word AND ∷ [])
with_a_label = refl

without_one : pred_at (Word CONTAINS ∷ Sign Open ∷ Name (codes "body") ∷ Sign Comma ∷ Text (codes "fox") ∷ Sign Close ∷ Sign Greater ∷ Number (codes "0") ∷ [])
    ≡ Some (Contains (codes "body") (codes "fox") None (Fits (pos 0)), [])
without_one = refl

in_a_catalogue : pred_at (Word CATSEARCH ∷ Sign Open ∷ Name (codes "title") ∷ Sign Comma ∷ Text (codes "fox")
    ∷ Sign Comma ∷ Text (codes "price > 1") ∷ Sign Close ∷ Sign Greater ∷ Number (codes "00") ∷ Word AND ∷ [])
    ≡ Some (Catsearch (codes "title") (codes "fox") (Some (codes "price > 1")), Word AND ∷ [])
in_a_catalogue = refl

without_a_condition : pred_at (Word CATSEARCH ∷ Sign Open ∷ Name (codes "title") ∷ Sign Comma ∷ Text (codes "fox")
    ∷ Sign Comma ∷ Word NULL ∷ Sign Close ∷ Sign Greater ∷ Number (codes "0") ∷ [])
    ≡ Some (Catsearch (codes "title") (codes "fox") None, [])
without_a_condition = refl

above_one : pred_at (Word CATSEARCH ∷ Sign Open ∷ Name (codes "title") ∷ Sign Comma ∷ Text (codes "fox")
    ∷ Sign Comma ∷ Word NULL ∷ Sign Close ∷ Sign Greater ∷ Number (codes "1") ∷ []) ≡ None
above_one = refl

neither_text_nor_null : pred_at (Word CATSEARCH ∷ Sign Open ∷ Name (codes "title") ∷ Sign Comma ∷ Text (codes "fox") ∷ Sign Close
    ∷ Sign Greater ∷ Number (codes "0") ∷ []) ≡ None
neither_text_nor_null = refl

of_a_rule : pred_at (Word MATCHES ∷ Sign Open ∷ Name (codes "rule") ∷ Sign Comma ∷ Text (codes "a storm") ∷ Sign Close ∷ Sign Greater ∷ Number (codes "0") ∷ Word AND ∷ [])
    ≡ Some (Matches (codes "rule") (codes "a storm"), Word AND ∷ [])
of_a_rule = refl

rules_above_one : pred_at (Word MATCHES ∷ Sign Open ∷ Name (codes "rule") ∷ Sign Comma ∷ Text (codes "a storm") ∷ Sign Close ∷ Sign Greater ∷ Number (codes "1") ∷ []) ≡ None
rules_above_one = refl
