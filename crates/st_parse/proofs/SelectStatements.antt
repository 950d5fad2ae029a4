-- SELECT is read as it is spelt.
use Rattle.std.proofs.Common.{◌≡◌, ℕ, ◌≤◌, Bool, true, false, cond, append_assoc, List, [], ◌∷◌, ◌++◌, refl, sym, ap, ◌∙◌, subst, Option, Some, None}
use Rattle.std.specs.Prelude.{nat_le, count_by, pos}
use Rattle.std.proofs.lemmas.Bool.{leb-true, le-leb}
use Rattle.std.proofs.lemmas.Bool.Decides.{Decides-int_eq}
use Rattle.st_parse.specs.declared.lexemes.Keyword.TheVariants.{Select as SELECT, Count as COUNT, From as FROM, Contains as CONTAINS, Catsearch as CATSEARCH, Matches as MATCHES, Null as NULL}
use Rattle.st_parse.specs.declared.lexemes.Symbol.TheVariants.{Open, Close, Comma, Star, Greater}
use Rattle.st_parse.specs.declared.lexemes.Lexeme.{Lexeme}
use Rattle.st_parse.specs.declared.lexemes.Lexeme.TheVariants.{Word, Name, Text, Number, Sign}
use Rattle.st_parse.specs.declared.listing.Separator.TheVariants.{Comma as ByComma}
use Rattle.st_parse.specs.declared.statements.Whole.{Whole}
use Rattle.st_parse.specs.declared.statements.Whole.TheVariants.{Fits, Beyond}
use Rattle.st_parse.specs.declared.statements.Item.{Item}
use Rattle.st_parse.specs.declared.statements.OrderItem.{OrderItem}
use Rattle.st_parse.specs.declared.statements.Cond.{Cond as Condition}
use Rattle.st_parse.specs.declared.statements.Pred.{Pred}
use Rattle.st_parse.specs.declared.statements.Pred.TheVariants.{Cond, Contains, Catsearch, Matches}
use Rattle.st_parse.specs.declared.statements.SelectList.{SelectList}
use Rattle.st_parse.specs.declared.statements.SelectList.TheVariants.{Star as AllColumns, CountAll, Items}
use Rattle.st_parse.specs.declared.statements.Statement.TheVariants.{Select}
use Rattle.st_parse.specs.Lexemes.{◌>>=◌}
use Rattle.st_parse.specs.Numbers.{number}
use Rattle.st_parse.specs.Lists.{AreListed, IsWhere, list_at, where_at}
use Rattle.st_parse.specs.Conditions.{IsCond, cond_at}
use Rattle.st_parse.specs.Ordering.{IsSelectItem, AreOrders, item_at, orders_of}
use Rattle.st_parse.specs.Selecting.{IsSelectList, IsLabel, structured_lexeme, IsPred, is_search, count_at, select_list_at, label_at, above_at, contains_at, structured_at, is_zero, above_zero_at, catsearch_at, matches_at, pred_at, select_by, ordered_of, from_of, select_of}
use Rattle.st_parse.specs.Grammar.{IsStatement}
use Rattle.st_parse.proofs.Spelt.{Spelt, Wholly, Follows, list_at-spelt, list_at-again, where_at-spelt, where_at-again}
use Rattle.st_parse.proofs.SpeltConditions.{cond-spelt, cond-again}
use Rattle.st_parse.proofs.SpeltOrders.{item-spelt, item-again, orders-spelt, orders-again, orders-follow}

items-spelt : (o : Option (List Item × List Lexeme)) (ls : List Lexeme) → Spelt (AreListed IsSelectItem) o ls
    → Spelt IsSelectList (o >>= λ items. Some (Items items.0, items.1)) ls
items-spelt None ls are = tt
items-spelt (Some (items, rest)) ls are = are

count-spelt : (ls : List Lexeme) → Spelt IsSelectList (count_at ls) (Word COUNT ∷ ls)
count-spelt (Sign Open ∷ Sign Star ∷ Sign Close ∷ ls) = (Word COUNT ∷ Sign Open ∷ Sign Star ∷ Sign Close ∷ [], refl, refl)
count-spelt ls = tt

list-spelt : (ls : List Lexeme) → Spelt IsSelectList (select_list_at ls) ls
list-spelt (Sign Star ∷ ls) = (Sign Star ∷ [], refl, refl)
list-spelt (Word COUNT ∷ ls) = count-spelt ls
list-spelt ls = items-spelt (list_at ByComma item_at ls) ls (list_at-spelt IsSelectItem item_at item-spelt ByComma ls)

-- items begin neither with `*` nor with COUNT
items-first : (ls rest : List Lexeme) (items : List Item) → list_at ByComma item_at ls ≡ Some (items, rest) → select_list_at ls ≡ Some (Items items, rest)
items-first (Sign Star ∷ ls) rest items read = cc
items-first (Word COUNT ∷ ls) rest items read = cc
items-first ls rest items read = ap (λ o. o >>= λ found. Some (Items found.0, found.1)) read

list-again : (prefix rest : List Lexeme) (list : SelectList) → IsSelectList prefix list → select_list_at (prefix ++ Word FROM ∷ rest) ≡ Some (list, Word FROM ∷ rest)
list-again prefix rest AllColumns e = ap (λ x. select_list_at (x ++ Word FROM ∷ rest)) e
list-again prefix rest CountAll e = ap (λ x. select_list_at (x ++ Word FROM ∷ rest)) e
list-again prefix rest (Items items) are =
    items-first (prefix ++ Word FROM ∷ rest) (Word FROM ∷ rest) items (list_at-again IsSelectItem item_at item-again ByComma prefix (Word FROM ∷ rest) items are tt tt)

-- the lexemes of a label and what follows them
abbrev Labelled : Option Whole × List Lexeme → List Lexeme → Type 0
Labelled found ls = (labels : List Lexeme) × IsLabel labels found.0 × (ls ≡ labels ++ found.1)

label-spelt : (ls : List Lexeme) → Labelled (label_at ls) ls
label-spelt (Sign Comma ∷ Number digits ∷ ls) = (Sign Comma ∷ Number digits ∷ [], (digits, refl, refl), refl)
label-spelt ls = ([], refl, refl)

label-again : (labels rest : List Lexeme) (label : Option Whole) → IsLabel labels label → label_at (labels ++ Sign Close ∷ rest) ≡ (label, Sign Close ∷ rest)
label-again labels rest None e = ap (λ x. label_at (x ++ Sign Close ∷ rest)) e
label-again labels rest (Some label) (digits, value, e) = ap (λ x. label_at (x ++ Sign Close ∷ rest)) e ∙ ap (λ x. (Some x, Sign Close ∷ rest)) (sym value)

-- CONTAINS up to its text
abbrev contains : List ℕ → List ℕ → List Lexeme → List Lexeme
contains column query ls = Word CONTAINS ∷ Sign Open ∷ Name column ∷ Sign Comma ∷ Text query ∷ ls

above-spelt : (column query : List ℕ) (found : Option Whole × List Lexeme) (ls : List Lexeme) → Labelled found ls
    → Spelt IsPred (above_at column query found) (contains column query ls)
above-spelt column query (label, Sign Close ∷ Sign Greater ∷ Number digits ∷ rest) ls (labels, is, e) =
    let tail : List Lexeme = Sign Close ∷ Sign Greater ∷ Number digits ∷ [] in
    (contains column query (labels ++ tail), (labels, (digits, is, refl, refl)), ap (contains column query) (e ∙ sym (append_assoc labels tail rest)))
above-spelt column query found ls is = tt

condition-spelt : (o : Option (Condition × List Lexeme)) (ls : List Lexeme) → Spelt IsCond o ls → Spelt IsPred (o >>= λ found. Some (Cond found.0, found.1)) ls
condition-spelt None ls is = tt
condition-spelt (Some (condition, rest)) ls is = is

contains-spelt : (ls : List Lexeme) → Spelt IsPred (contains_at ls) (Word CONTAINS ∷ ls)
contains-spelt (Sign Open ∷ Name column ∷ Sign Comma ∷ Text query ∷ ls) = above-spelt column query (label_at ls) ls (label-spelt ls)
contains-spelt ls = tt

-- CATSEARCH up to its text
abbrev catsearch : List ℕ → List ℕ → List Lexeme → List Lexeme
catsearch column query ls = Word CATSEARCH ∷ Sign Open ∷ Name column ∷ Sign Comma ∷ Text query ∷ ls

-- what stands behind the structured query
abbrev above_zero : List ℕ → List Lexeme → List Lexeme
above_zero digits ls = Sign Close ∷ Sign Greater ∷ Number digits ∷ ls

zero-is : (n : Whole) → is_zero n ≡ true → n ≡ Fits (pos 0)
zero-is (Fits n) zero = ap Fits ((Decides-int_eq n (pos 0)).0 zero)
zero-is Beyond zero = cc

-- A predicate that is spelt by what stands in front of its number.
abbrev EndsByZero : Pred → (List Lexeme → List Lexeme) → Type 0
EndsByZero pred spelling = (digits : List ℕ) (rest : List Lexeme) → number digits ≡ Fits (pos 0) → Spelt IsPred (Some (pred, rest)) (spelling (above_zero digits rest))

zero-spelt : (pred : Pred) (spelling : List Lexeme → List Lexeme) → EndsByZero pred spelling → (b : Bool) (digits : List ℕ) (rest : List Lexeme) → is_zero (number digits) ≡ b
    → Spelt IsPred (cond b (Some (pred, rest)) None) (spelling (above_zero digits rest))
zero-spelt pred spelling ends true digits rest zero = ends digits rest (zero-is (number digits) zero)
zero-spelt pred spelling ends false digits rest zero = tt

above_zero-spelt : (pred : Pred) (spelling : List Lexeme → List Lexeme) → EndsByZero pred spelling → (ls : List Lexeme) → Spelt IsPred (above_zero_at pred ls) (spelling ls)
above_zero-spelt pred spelling ends (Sign Close ∷ Sign Greater ∷ Number digits ∷ rest) = zero-spelt pred spelling ends (is_zero (number digits)) digits rest refl
above_zero-spelt pred spelling ends ls = tt

-- with this structured query
catsearch-ends : (column query : List ℕ) (structured : Option (List ℕ)) → EndsByZero (Catsearch column query structured) (λ ls. catsearch column query (Sign Comma ∷ structured_lexeme structured ∷ ls))
catsearch-ends column query structured digits rest zero = (catsearch column query (Sign Comma ∷ structured_lexeme structured ∷ above_zero digits []), (digits, zero, refl), refl)

structured-spelt : (column query : List ℕ) (ls : List Lexeme) → Spelt IsPred (structured_at ls >>= λ found. above_zero_at (Catsearch column query found.0) found.1) (catsearch column query ls)
structured-spelt column query (Sign Comma ∷ Word NULL ∷ ls) =
    above_zero-spelt (Catsearch column query None) (λ l. catsearch column query (Sign Comma ∷ Word NULL ∷ l)) (catsearch-ends column query None) ls
structured-spelt column query (Sign Comma ∷ Text text ∷ ls) =
    above_zero-spelt (Catsearch column query (Some text)) (λ l. catsearch column query (Sign Comma ∷ Text text ∷ l)) (catsearch-ends column query (Some text)) ls
structured-spelt column query ls = tt

catsearch-spelt : (ls : List Lexeme) → Spelt IsPred (catsearch_at ls) (Word CATSEARCH ∷ ls)
catsearch-spelt (Sign Open ∷ Name column ∷ Sign Comma ∷ Text query ∷ ls) = structured-spelt column query ls
catsearch-spelt ls = tt

-- MATCHES up to its text
abbrev matches : List ℕ → List ℕ → List Lexeme → List Lexeme
matches column document ls = Word MATCHES ∷ Sign Open ∷ Name column ∷ Sign Comma ∷ Text document ∷ ls

matches-ends : (column document : List ℕ) → EndsByZero (Matches column document) (matches column document)
matches-ends column document digits rest zero = (matches column document (above_zero digits []), (digits, zero, refl), refl)

matches-spelt : (ls : List Lexeme) → Spelt IsPred (matches_at ls) (Word MATCHES ∷ ls)
matches-spelt (Sign Open ∷ Name column ∷ Sign Comma ∷ Text document ∷ ls) = above_zero-spelt (Matches column document) (matches column document) (matches-ends column document) ls
matches-spelt ls = tt

pred-spelt : (ls : List Lexeme) → Spelt IsPred (pred_at ls) ls
pred-spelt (Word CONTAINS ∷ ls) = contains-spelt ls
pred-spelt (Word CATSEARCH ∷ ls) = catsearch-spelt ls
pred-spelt (Word MATCHES ∷ ls) = matches-spelt ls
pred-spelt ls = condition-spelt (cond_at ls) ls (cond-spelt ls)

-- a condition begins with no word of a search
condition-first : (ls rest : List Lexeme) (condition : Condition) → cond_at ls ≡ Some (condition, rest) → pred_at ls ≡ Some (Cond condition, rest)
condition-first (Word CONTAINS ∷ ls) rest condition read = cc
condition-first (Word CATSEARCH ∷ ls) rest condition read = cc
condition-first (Word MATCHES ∷ ls) rest condition read = cc
condition-first ls rest condition read = ap (λ o. o >>= λ found. Some (Cond found.0, found.1)) read

structured-again : (structured : Option (List ℕ)) (rest : List Lexeme) → structured_at (Sign Comma ∷ structured_lexeme structured ∷ rest) ≡ Some (structured, rest)
structured-again None rest = refl
structured-again (Some text) rest = refl

pred-again : (prefix rest : List Lexeme) (pred : Pred) → IsPred prefix pred → Follows rest → pred_at (prefix ++ rest) ≡ Some (pred, rest)
pred-again prefix rest (Cond condition) is follows = condition-first (prefix ++ rest) rest condition (cond-again prefix rest condition is follows)
pred-again prefix rest (Contains column query label above) (labels, (digits, is, value, e)) follows =
    ap (λ x. pred_at (x ++ rest)) e
    ∙ ap (λ x. pred_at (contains column query x)) (append_assoc labels (Sign Close ∷ Sign Greater ∷ Number digits ∷ []) rest)
    ∙ ap (above_at column query) (label-again labels (Sign Greater ∷ Number digits ∷ rest) label is)
    ∙ ap (λ x. Some (Contains column query label x, rest)) (sym value)
pred-again prefix rest (Catsearch column query structured) (digits, zero, e) follows =
    ap (λ x. pred_at (x ++ rest)) e
    ∙ ap (λ o. o >>= λ found. above_zero_at (Catsearch column query found.0) found.1) (structured-again structured (above_zero digits rest))
    ∙ ap (λ n. cond (is_zero n) (Some (Catsearch column query structured, rest)) None) zero
pred-again prefix rest (Matches column document) (digits, zero, e) follows =
    ap (λ x. pred_at (x ++ rest)) e ∙ ap (λ n. cond (is_zero n) (Some (Matches column document, rest)) None) zero

-- the statement, with `b` for whether it has one search at most
counted-means : (b : Bool) (list : SelectList) (table : List ℕ) (preds : List Pred) (orders : List OrderItem) (columns filter order : List Lexeme)
    → IsSelectList columns list → IsWhere IsPred filter preds → AreOrders order orders → nat_le (count_by is_search preds) 1 ≡ b
    → Wholly IsStatement (cond b (Some (Select list table preds orders)) None) (Word SELECT ∷ (columns ++ Word FROM ∷ Name table ∷ (filter ++ order)))
counted-means true list table preds orders columns filter order is are sorts few =
    (columns, filter, order, is, are, sorts, leb-true (count_by is_search preds) 1 few, refl)
counted-means false list table preds orders columns filter order is are sorts few = tt

made-means : (list : SelectList) (table : List ℕ) (preds : List Pred) (columns filter order : List Lexeme) (o : Option (List OrderItem))
    → IsSelectList columns list → IsWhere IsPred filter preds → Wholly AreOrders o order
    → Wholly IsStatement (o >>= select_by list table preds) (Word SELECT ∷ (columns ++ Word FROM ∷ Name table ∷ (filter ++ order)))
made-means list table preds columns filter order None is are sorts = tt
made-means list table preds columns filter order (Some orders) is are sorts =
    counted-means (nat_le (count_by is_search preds) 1) list table preds orders columns filter order is are sorts refl

where-means : (list : SelectList) (table : List ℕ) (columns ls : List Lexeme) (o : Option (List Pred × List Lexeme)) → IsSelectList columns list
    → Spelt (IsWhere IsPred) o ls
    → Wholly IsStatement (o >>= ordered_of list table) (Word SELECT ∷ (columns ++ Word FROM ∷ Name table ∷ ls))
where-means list table columns ls None is are = tt
where-means list table columns ls (Some (preds, rest)) is (filter, are, e) =
    subst (λ x. Wholly IsStatement (ordered_of list table (preds, rest)) (Word SELECT ∷ (columns ++ Word FROM ∷ Name table ∷ x))) (sym e)
    (made-means list table preds columns filter rest (orders_of rest) is are (orders-spelt rest))

from-means : (list : SelectList) (columns ls : List Lexeme) → IsSelectList columns list → Wholly IsStatement (from_of list ls) (Word SELECT ∷ (columns ++ ls))
from-means list columns (Word FROM ∷ Name table ∷ ls) is = where-means list table columns ls (where_at pred_at ls) is (where_at-spelt IsPred pred_at pred-spelt ls)
from-means list columns ls is = tt

list-means : (o : Option (SelectList × List Lexeme)) (ls : List Lexeme) → Spelt IsSelectList o ls
    → Wholly IsStatement (o >>= λ list. from_of list.0 list.1) (Word SELECT ∷ ls)
list-means None ls is = tt
list-means (Some (list, rest)) ls (columns, is, e) =
    subst (λ x. Wholly IsStatement (from_of list rest) (Word SELECT ∷ x)) (sym e) (from-means list columns rest is)

pub select-means : (ls : List Lexeme) → Wholly IsStatement (select_of ls) (Word SELECT ∷ ls)
select-means ls = list-means (select_list_at ls) ls (list-spelt ls)

pub select-again : (list : SelectList) (table : List ℕ) (preds : List Pred) (orders : List OrderItem) (columns filter order : List Lexeme)
    → IsSelectList columns list → IsWhere IsPred filter preds → AreOrders order orders → count_by is_search preds ≤ 1
    → select_of (columns ++ Word FROM ∷ Name table ∷ (filter ++ order)) ≡ Some (Select list table preds orders)
select-again list table preds orders columns filter order is are sorts few =
    ap (λ o. o >>= λ found. from_of found.0 found.1) (list-again columns (Name table ∷ (filter ++ order)) list is)
    ∙ ap (λ o. o >>= ordered_of list table) (where_at-again IsPred pred_at pred-again filter order preds are (orders-follow order orders sorts))
    ∙ ap (λ o. o >>= select_by list table preds) (orders-again order orders sorts)
    ∙ ap (λ b. cond b (Some (Select list table preds orders)) None) (le-leb (count_by is_search preds) 1 few)
