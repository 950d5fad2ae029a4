-- The texts that a list shows are of columns that it shows, and those by which rows are ordered are kept beside them.
use Rattle.std.proofs.Common.{◌≡◌, ◌<◌, ◌+◌, ℕ, suc, Bool, true, false, cond, List, [], ◌∷◌, ◌++◌, length, get_or, drop, map, refl, sym, ap, ◌∙◌, add-one, append_assoc, arith, eqb}
use Rattle.std.specs.Prelude.{◌&&◌}
use Rattle.std.specs.List.{list_any}
use Rattle.std.proofs.lemmas.Bool.{and_from, eqb-true}
use Rattle.ct_base.specs.laws.Lists.{drop_next}
use Rattle.st_parse.specs.declared.statements.Cond.{Cond}
use Rattle.st_parse.specs.declared.statements.Item.{Item}
use Rattle.st_parse.specs.declared.statements.Item.TheVariants.{Column as ColumnItem, Score as ScoreItem}
use Rattle.st_parse.specs.declared.statements.OrderItem.{OrderItem}
use Rattle.st_parse.specs.declared.statements.SelectList.{SelectList}
use Rattle.st_parse.specs.declared.statements.SelectList.TheVariants.{Star, CountAll, Items}
use Rattle.tb_table.specs.declared.columns.Column.{Column}
use Rattle.ix_kinds.specs.Targets.{is_text_sort}
use Rattle.db_rows.specs.Texts.{HasFewerLeft, conds_among, places_from, passing_text_places}
use Rattle.db_rows.specs.laws.Texts.{conds_named, either_first, either_second, fewer_places, named_among, same_list_back}
use Rattle.db_select.specs.Fields.{field_among, fields_among}
use Rattle.db_select.specs.Looking.{is_column_item, keeps, kept_texts, orders_by, read_texts, reads, shown_texts, shows}
use Rattle.db_select.specs.Ranking.{order_sources}
use Rattle.db_select.specs.Sources.{column_source, field_source}

-- ---- what the lines read

-- `*` shows each column
shows_all : (list : SelectList) → list ≡ Star → (c : Column) → shows list c ≡ true
shows_all list star c = ap (λ (l : SelectList). shows l c) star

pub all_shown : (list : SelectList) (columns : List Column) → list ≡ Star → (cs : List Column) → fields_among (shown_texts list columns) (map (column_source columns) cs) ≡ true
all_shown list columns star [] = refl
all_shown list columns star (c ∷ cs) =
    and_from _ _ (named_among (shows list) columns c.name (λ d same. shows_all list star d)) (all_shown list columns star cs)

-- and else those of the items
among_item : (test : Column → Bool) (columns : List Column) (item : Item) → ((c : Column) → is_column_item c item ≡ true → test c ≡ true) → field_among (passing_text_places test columns) (field_source columns item) ≡ true
among_item test columns (ColumnItem name) each = named_among test columns name (λ c same. each c (same_list_back name c.name same))
among_item test columns (ScoreItem label) each = refl

among_items : (test : Column → Bool) (columns : List Column) (items : List Item) → ((c : Column) → list_any (is_column_item c) items ≡ true → test c ≡ true)
    → fields_among (passing_text_places test columns) (map (field_source columns) items) ≡ true
among_items test columns [] each = refl
among_items test columns (item ∷ items) each =
    and_from _ _ (among_item test columns item (λ c is. each c (either_first (is_column_item c item) _ is)))
    (among_items test columns items (λ c is. each c (either_second (is_column_item c item) _ is)))

pub items_shown : (list : SelectList) (columns : List Column) (items : List Item) → list ≡ Items items → fields_among (shown_texts list columns) (map (field_source columns) items) ≡ true
items_shown list columns items listed = among_items (shows list) columns items (λ c is. ap (λ (l : SelectList). shows l c) listed ∙ is)

-- ---- what is kept

pub none_from_empty : {X : Type 0} (xs : List X) → eqb (length xs) 0 ≡ true → xs ≡ []
none_from_empty [] empty = refl
none_from_empty (x ∷ xs) empty = let none : length (x ∷ xs) ≡ 0 = eqb-true (length (x ∷ xs)) 0 empty in absurd (omega arith)

-- COUNT(*) without an order keeps nothing
none_from : (list : SelectList) (orders : List OrderItem) → list ≡ CountAll → orders ≡ [] → (place : ℕ) (cs : List Column) → places_from place (λ c. is_text_sort c.sort && keeps list orders c) cs ≡ []
none_from list orders counts none place [] = refl
none_from list orders counts none place (c ∷ cs) =
    let rest : List ℕ = places_from (suc place) (λ c. is_text_sort c.sort && keeps list orders c) cs in
    ap (λ (b : Bool). cond b (place ∷ rest) rest) (not_kept (is_text_sort c.sort) (keeps list orders c) (λ i. keeps (counts i) (none i) c)) ∙ none_from list orders counts none (suc place) cs
  where
    not_kept : (a b : Bool) → b ≡ false → (a && b) ≡ false
    not_kept true b is = is
    not_kept false b is = refl

pub none_kept : (list : SelectList) (orders : List OrderItem) (columns : List Column) → list ≡ CountAll → orders ≡ [] → [] ≡ kept_texts list orders columns
none_kept list orders columns counts none = sym (none_from list orders counts none 0 columns)

-- what is shown, and what rows are ordered by
pub fewer_shown : (list : SelectList) (orders : List OrderItem) (columns : List Column) → HasFewerLeft (shown_texts list columns) (kept_texts list orders columns)
fewer_shown list orders columns = fewer_places (shows list) (keeps list orders) (λ c is. either_first (shows list c) _ is) columns

among_orders : (test : Column → Bool) (columns : List Column) (orders : List OrderItem) → ((c : Column) → orders_by orders c ≡ true → test c ≡ true)
    → fields_among (passing_text_places test columns) (order_sources columns orders) ≡ true
among_orders test columns [] each = refl
among_orders test columns (o ∷ orders) each =
    and_from _ _ (among_item test columns o.item (λ c is. each c (either_first (is_column_item c o.item) _ is)))
    (among_orders test columns orders (λ c is. each c (either_second (is_column_item c o.item) _ is)))

pub orders_kept : (list : SelectList) (columns : List Column) (orders : List OrderItem) → fields_among (kept_texts list orders columns) (order_sources columns orders) ≡ true
orders_kept list columns orders = among_orders (keeps list orders) columns orders (λ c is. either_second (shows list c) _ is)

-- ---- what a SELECT reads

pub fewer_kept : (list : SelectList) (orders : List OrderItem) (conds : List Cond) (columns : List Column) → HasFewerLeft (kept_texts list orders columns) (read_texts list orders conds columns)
fewer_kept list orders conds columns = fewer_places (keeps list orders) (reads list orders conds) (λ c is. either_first (keeps list orders c) _ is) columns

pub conds_read : (list : SelectList) (orders : List OrderItem) (conds : List Cond) (columns : List Column) → conds_among (read_texts list orders conds columns) columns conds ≡ true
conds_read list orders conds columns = conds_named (reads list orders conds) columns conds (λ c is. either_second (keeps list orders c) _ is)

-- ---- the steps of finding the columns that are kept

module _ (test : Column → Bool) (columns : List Column) (i : ℕ) (c : Column) (within : i < length columns) (at : c ≡ get_or columns i c) where
  next_place : places_from i test (drop i columns) ≡ cond (test c) (i ∷ places_from (i + 1) test (drop (i + 1) columns)) (places_from (i + 1) test (drop (i + 1) columns))
  next_place =
      ap (places_from i test) (drop_next columns i c within at)
      ∙ ap (λ (j : ℕ). cond (test c) (i ∷ places_from j test (drop (i + 1) columns)) (places_from j test (drop (i + 1) columns))) (sym (add-one i))

  pub place_passed : (places whole : List ℕ) → test c ≡ false → places ++ places_from i test (drop i columns) ≡ whole → places ++ places_from (i + 1) test (drop (i + 1) columns) ≡ whole
  place_passed places whole fails before =
      ap (λ (l : List ℕ). places ++ l)
      (sym (next_place ∙ ap (λ (b : Bool). cond b (i ∷ places_from (i + 1) test (drop (i + 1) columns)) (places_from (i + 1) test (drop (i + 1) columns))) fails))
      ∙ before

  pub place_put : (places more whole : List ℕ) → test c ≡ true → more ≡ places ++ i ∷ [] → places ++ places_from i test (drop i columns) ≡ whole → more ++ places_from (i + 1) test (drop (i + 1) columns) ≡ whole
  place_put places more whole passes pushed before =
      ap (λ (l : List ℕ). l ++ places_from (i + 1) test (drop (i + 1) columns)) pushed
      ∙ append_assoc places (i ∷ []) (places_from (i + 1) test (drop (i + 1) columns))
      ∙ ap (λ (l : List ℕ). places ++ l)
      (sym (next_place ∙ ap (λ (b : Bool). cond b (i ∷ places_from (i + 1) test (drop (i + 1) columns)) (places_from (i + 1) test (drop (i + 1) columns))) passes))
      ∙ before
