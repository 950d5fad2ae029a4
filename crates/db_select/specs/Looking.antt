-- How much a SELECT with a search looks up, and how much it may.
use Rattle.std.specs.Prelude.{ℕ, pos, ◌+◌, ◌*◌, ◌≡◌, ◌||◌, Bool, true, false, List, [], ◌∷◌, length, ◌≤◌, Option, Some, None, Result, Vec, codes, refl}
use Rattle.std.specs.Bool.{if◌then◌else◌}
use Rattle.std.specs.List.{list_any}
use Rattle.std.specs.Option.{option_map}
use Rattle.std.specs.FinMap.{get}
use Rattle.std.specs.Str.{chars}
use Rattle.std.specs.declared.alloc.Global.{Global}
use Rattle.std.proofs.Common.{ap, ◌∙◌}
use Rattle.ct_keep.specs.Content.{Content}
use Rattle.ct_keep.specs.KeeperViews.{Counts, KeeperView}
use Rattle.ct_keep.specs.Looks.{no_looks, plus, scan_looks, RisesBy}
use Rattle.ct_keep.specs.declared.keepers.KeepFault.{KeepFault}
use Rattle.ct_entry.specs.declared.kinds.Kind.TheVariants as kind
use Rattle.ct_entry.specs.Keys.{same_list}
use Rattle.ct_entry.specs.Kinds.{code}
use Rattle.st_parse.specs.declared.statements.Compare.TheVariants.{Equal}
use Rattle.st_parse.specs.declared.statements.Cond.{Cond}
use Rattle.st_parse.specs.declared.statements.Cond.TheVariants.{Compare}
use Rattle.st_parse.specs.declared.statements.Operand.TheVariants.{Text as TextOperand}
use Rattle.st_parse.specs.declared.statements.Item.{Item}
use Rattle.st_parse.specs.declared.statements.Item.TheVariants.{Column as ColumnItem, Score as ScoreItem}
use Rattle.st_parse.specs.declared.statements.OrderItem.{OrderItem}
use Rattle.st_parse.specs.declared.statements.Pred.{Pred}
use Rattle.st_parse.specs.declared.statements.SelectList.{SelectList}
use Rattle.st_parse.specs.declared.statements.SelectList.TheVariants.{Star, CountAll, Items}
use Rattle.st_parse.specs.declared.statements.Whole.TheVariants.{Fits}
use Rattle.tb_table.specs.declared.columns.Column.{Column}
use Rattle.tb_table.specs.Tables.{Table, docs_columns}
use Rattle.db_cond.specs.Faults.{WrongValues}
use Rattle.db_looks.specs.Allowances.{Allowance, CountsWithin, unbounded}
use Rattle.db_state.specs.States.{StoreState, OverNamedTable, OverStates}
use Rattle.db_state.specs.Effects.{Effect, Refused, is_done}
use Rattle.db_rows.specs.Checking.{cond_columns}
use Rattle.db_rows.specs.Sources.{of_columns}
use Rattle.db_rows.specs.Texts.{RisesLeaving, is_named, left_by, passing_text_places, texts_alone}
use Rattle.ix_indexes.specs.Indexes.{Index, as_index, as_rules}
use Rattle.ix_search.specs.declared.hits.Hit.{Hit}
use Rattle.ix_search.specs.Finding.{three_rows}
use Rattle.cat_where.specs.declared.stages.Where.{Where}
use Rattle.ix_search.specs.Looking.{foxes}
use Rattle.db_find.specs.Looking.{allowance_in, four_rows_of_fox, leaving_rules, looks_in, rules_in_index, texts_in_index}
use Rattle.db_find.specs.Matching.{four_rules, one_is_looked_at}
use Rattle.db_find.specs.Searches.{Search, Contains, Matches, search_in}
use Rattle.db_find.specs.Seeking.{named_index}
use Rattle.db_find.specs.Structured.{asked_where}
use Rattle.db_select.specs.Hits.{all_conds, found_rows, rows_left}
use Rattle.db_select.specs.declared.finds.FoundRow.{FoundRow}
use Rattle.db_select.specs.Predicates.{below_seven, conds_in}
use Rattle.db_select.specs.Selecting.{select_rows, selected_left}
use Rattle.db_select.specs.Statements.{select_statement}
use Rattle.db_select.specs.declared.finds.Selected.{Selected}
use Rattle.db_select.specs.Choosing.{Selection, asked_by, selection}

-- ---- the texts of a row

abbrev pub is_column_item : Column → Item → Bool
is_column_item c (ColumnItem name) = same_list c.name name
is_column_item c (ScoreItem label) = false

-- the list shows the column
abbrev pub shows : SelectList → Column → Bool
shows Star c = true
shows CountAll c = false
shows (Items items) c = list_any (is_column_item c) items

-- rows are ordered by it
abbrev pub orders_by : List OrderItem → Column → Bool
orders_by orders c = list_any (λ o. is_column_item c o.item) orders

-- the list shows it, or rows are ordered by it; what was read of such columns is kept until the lines are made
abbrev pub keeps : SelectList → List OrderItem → Column → Bool
keeps list orders c = shows list c || orders_by orders c

-- or a condition is on it
abbrev pub reads : SelectList → List OrderItem → List Cond → Column → Bool
reads list orders conds c = keeps list orders c || is_named (cond_columns conds) c

-- the columns of texts, each once, that a list shows; and those that a SELECT reads of a row
abbrev pub shown_texts : SelectList → List Column → List ℕ
shown_texts list columns = passing_text_places (shows list) columns

abbrev pub kept_texts : SelectList → List OrderItem → List Column → List ℕ
kept_texts list orders columns = passing_text_places (keeps list orders) columns

abbrev pub read_texts : SelectList → List OrderItem → List Cond → List Column → List ℕ
read_texts list orders conds columns = passing_text_places (reads list orders conds) columns

-- how many texts of columns a SELECT with a search reads of each row that this finds: its own conditions and its order count
abbrev pub row_texts : Selection → Search → List Cond → List Column → ℕ
row_texts want s conds columns = length (read_texts want.list (asked_by want (asked_where s)).orders (all_conds (asked_where s) conds) columns)

-- HOW MANY TEXTS A SELECT WITH A SEARCH READS at most: those that the search reads to find rows, and of each row that it finds, before the conditions, the text
-- of each column of texts that the list, a condition or the order names
abbrev pub select_texts : StoreState → List ℕ → Table → Selection → Search → List Cond → ℕ
select_texts m t x want s conds = texts_in_index m.tables (named_index m t x.columns s) s + length (found_rows m t x (Some s)) * row_texts want s conds x.columns

-- ---- what a SELECT with a search looks up at most

-- it looks for the index among the entries of all indexes, and looks up no text for that
abbrev pub index_looks : Content → Counts
index_looks c = record (scan_looks (code kind.Indexes ∷ []) c) { texts = 0 }

-- where it isn't refused: so many texts for each row that the search finds, and the rows of postings that the search looks at
abbrev pub found_looks : Content → StoreState → List ℕ → Table → Selection → Search → List Cond → Counts
found_looks c m t x want s conds =
    record (plus (index_looks c) (looks_in c m.tables m.thesauri (named_index m t x.columns s) s)) { texts = select_texts m t x want s conds }

abbrev pub table_looks : Content → StoreState → List ℕ → Option Table → Selection → Search → List Cond → Counts
table_looks c m t None want s conds = no_looks
table_looks c m t (Some x) want s conds = found_looks c m t x want s conds

-- where it is refused, the search for the index alone
abbrev pub looks_by : Effect → Counts → Counts → Counts
looks_by effect least most = if is_done effect then most else least

-- WHAT A SELECT WITH A SEARCH LOOKS UP AT MOST, where this is what it does
abbrev pub select_looks : Effect → Content → StoreState → Selection → List ℕ → List Pred → Search → Counts
select_looks effect c m want t preds s = looks_by effect (index_looks c) (table_looks c m t (get m.tables t) want s (conds_in preds))

-- It looked up no more than that, if it has a search; else nothing is said.
abbrev pub LooksFew : Effect → Content → StoreState → Selection → List ℕ → List Pred → Option Search → Counts → Counts → Type 0
LooksFew effect c m want t preds None old new = Unit {0}
LooksFew effect c m want t preds (Some s) old new = RisesBy (leaving_rules s new (select_looks effect c m want t preds s)) old new

-- The same of a table with these columns, while so many of the texts are left.
abbrev pub LooksFewLeaving : Content → StoreState → List ℕ → Table → Selection → Option Search → List Cond → ℕ → Counts → Counts → Type 0
LooksFewLeaving c m t x want None conds left old new = Unit {0}
LooksFewLeaving c m t x want (Some s) conds left old new =
    RisesLeaving (leaving_rules s new (looks_by (select_rows m t x want (Some s) conds) (index_looks c) (found_looks c m t x want s conds))) left old new

-- ---- what calls promise, over each state that the content stands for

-- over the table of this name, where these are its columns
abbrev pub LooksFewOver : {K : Type 0} → (K → KeeperView) → K → K → List ℕ → List Column → Selection → Option Search → List Cond → ℕ → Type 0
LooksFewOver view old new t columns want search conds left =
    OverNamedTable view old t (λ m c x. x.columns ≡ columns → LooksFewLeaving c m t x want search conds left (view old).counts (view new).counts)

-- while the texts that are left of the rows that it found are still to be shown
abbrev pub FindsFew : {K : Type 0} → (K → KeeperView) → K → K → List ℕ → List Column → Selection → Option Search → List Cond → Result Selected KeepFault → Type 0
FindsFew view old new t columns want search conds result = LooksFewOver view old new t columns want search conds (left_by (selected_left (shown_texts want.list columns)) result)

-- Of each of these rows that a search found, each text that the list, the conditions or the order name was read once at most; those that are left of what is shown
-- weren't yet.
abbrev pub ReadsRows : {K : Type 0} → (K → KeeperView) → K → K → SelectList → List Column → Where → List Cond → List Hit → Result (Vec FoundRow Global) KeepFault → Type 0
ReadsRows view old new list columns asked conds found result =
    length columns ≤ 256
    → RisesLeaving (texts_alone (length found * length (read_texts list asked.orders (all_conds asked conds) columns))) (left_by (λ rows. rows_left (shown_texts list columns) rows.items) result)
    (view old).counts (view new).counts

-- A SELECT LOOKS UP NO MORE THAN THAT.
abbrev pub SelectsFew : {K : Type 0} → (K → KeeperView) → K → K → (StoreState → Selection → List ℕ → List Pred → Effect) → Selection → List ℕ → List Pred → Type 0
SelectsFew view old new effect want t preds = OverStates view old (λ m c. LooksFew (effect m want t preds) c m want t preds (search_in preds) (view old).counts (view new).counts)

-- ---- what it may look up, by rows

-- how many rules, where a number is said: of MATCHES 1 more than so many, which may stand behind the entries of the indexes
abbrev pub one_rule_more : Option ℕ → Option ℕ
one_rule_more rules = option_map (λ (n : ℕ). 1 + n) rules

-- where it is refused: no text, and 1 row, which may stand behind the entries of the indexes, or of MATCHES 1 rule
abbrev pub refused_allowance : Search → Allowance
refused_allowance s = record { texts = Some 0; rows = Some 1; rules = one_rule_more (rules_in_index None s) }

-- where it isn't: so many texts, 1 row of postings more than the search may look up in its index, and of MATCHES 1 rule more than it reads there
abbrev pub found_allowance : Content → StoreState → List ℕ → Table → Selection → Search → List Cond → Allowance
found_allowance c m t x want s conds = record {
  texts = Some (select_texts m t x want s conds);
  rows = Some (1 + allowance_in c m.thesauri (named_index m t x.columns s) s);
  rules = one_rule_more (rules_in_index (named_index m t x.columns s) s);
}

-- by the table, if it is there
abbrev pub table_allowance : Content → StoreState → Selection → List ℕ → List Cond → Search → Option Table → Allowance
table_allowance c m want t conds s None = refused_allowance s
table_allowance c m want t conds s (Some x) = found_allowance c m t x want s conds

-- and by its effect, which tells whether it is refused
abbrev pub allowance_by : Content → StoreState → Selection → List ℕ → List Cond → Search → Effect → Option Table → Allowance
allowance_by c m want t conds s effect found = if is_done effect then table_allowance c m want t conds s found else refused_allowance s

-- of one without a search nothing is said
abbrev pub searching_allowance : Effect → Content → StoreState → Selection → List ℕ → List Pred → Option Search → Allowance
searching_allowance effect c m want t preds None = unbounded
searching_allowance effect c m want t preds (Some s) = allowance_by c m want t (conds_in preds) s effect (get m.tables t)

-- WHAT A SELECT MAY LOOK UP of a content that stands for a state
abbrev pub select_allowance : Content → StoreState → Selection → List ℕ → List Pred → Allowance
select_allowance c m want t preds = searching_allowance (select_statement m want t preds) c m want t preds (search_in preds)

-- WHAT LOOKS UP NO MORE THAN A SELECT DOES AT MOST is within what it may.
abbrev pub SelectsLookFew : Type 0
SelectsLookFew = (c : Content) (m : StoreState) (want : Selection) (t : List ℕ) (preds : List Pred) (old new : Counts)
    → LooksFew (select_statement m want t preds) c m want t preds (search_in preds) old new → CountsWithin (select_allowance c m want t preds) old new

-- ---- computed examples: of the columns id, a (a CLOB), n (a NUMBER) and b (a VARCHAR2)

all_of_them : read_texts Star [] [] of_columns ≡ 1 ∷ 3 ∷ []
all_of_them = refl

-- SELECT b, id, b .. WHERE b = 'x'
abbrev b_is_x : Cond
b_is_x = Compare (codes "b") Equal (TextOperand (codes "x"))

named_thrice : read_texts (Items (ColumnItem (codes "b") ∷ ColumnItem (codes "id") ∷ ColumnItem (codes "b") ∷ [])) [] (b_is_x ∷ []) of_columns ≡ 3 ∷ []
named_thrice = refl

a_count_reads_no_more : read_texts CountAll [] (below_seven (codes "id") ∷ []) of_columns ≡ []
a_count_reads_no_more = refl

and_what_its_conditions_are_on : read_texts CountAll [] (b_is_x ∷ []) of_columns ≡ 3 ∷ []
and_what_its_conditions_are_on = refl

and_what_it_is_ordered_by : read_texts CountAll (record { item = ColumnItem (codes "b"); down = true } ∷ []) [] of_columns ≡ 3 ∷ []
and_what_it_is_ordered_by = refl

-- by a text, which the list shows too, and which two items name: it is read once
ordered_and_shown : row_texts (selection (Items (ColumnItem (codes "b") ∷ [])) (record { item = ColumnItem (codes "b"); down = true } ∷ record { item = ColumnItem (codes "b"); down = false } ∷ []))
    (Contains (codes "a") (codes "fox") None (Fits (pos 0))) [] of_columns ≡ 1
unfolding chars
ordered_and_shown = refl

-- a count reads no text for an order, and an order by scores and keys none either
a_count_in_order : row_texts (selection CountAll (record { item = ColumnItem (codes "b"); down = true } ∷ [])) (Contains (codes "a") (codes "fox") None (Fits (pos 0))) [] of_columns ≡ 0
unfolding chars
a_count_in_order = refl

by_score_and_key : row_texts (selection (Items (ColumnItem (codes "id") ∷ [])) (record { item = ScoreItem (Fits (pos 1)); down = true } ∷ record { item = ColumnItem (codes "id"); down = false } ∷ []))
    (Contains (codes "a") (codes "fox") (Some (Fits (pos 1))) (Fits (pos 0))) [] of_columns ≡ 0
unfolding chars
by_score_and_key = refl

no_text_where_it_is_refused : (c : Content) (most : Counts) → (looks_by (Refused WrongValues) (index_looks c) most).texts ≡ 0
no_text_where_it_is_refused c most = refl

-- CONTAINS(body, 'fox') > 0, where two rows are found: the price and the id of each are no texts
abbrev a_fox : Search
a_fox = Contains (codes "body") (codes "fox") None (Fits (pos 0))

two_texts : (c : Content) (m : StoreState) (x : Table) → x.columns ≡ docs_columns → found_rows m (codes "docs") x (Some a_fox) ≡ (pos 1, 2) ∷ (pos 7, 1) ∷ []
    → (found_allowance c m (codes "docs") x (selection Star []) a_fox []).texts ≡ Some 2
unfolding chars
two_texts c m x columns found = λ i. Some (texts_in_index m.tables (named_index m (codes "docs") (columns i) a_fox) a_fox + length (found i) * length (read_texts Star [] [] (columns i)))

-- the index `di`, in a content that has three rows of `fox`: one row more for each of the two searches
five_rows : (m : StoreState) (x : Table) → named_index m (codes "docs") x.columns a_fox ≡ Some (codes "di", as_index three_rows)
    → (found_allowance foxes m (codes "docs") x (selection Star []) a_fox []).rows ≡ Some 5
five_rows m x index = ap (λ (o : Option (List ℕ × Index)). Some (1 + allowance_in foxes m.thesauri o a_fox)) index ∙ ap (λ (n : ℕ). Some (1 + n)) (four_rows_of_fox m.thesauri)

-- MATCHES(q, 'b c') > 0: one of the four rules is filed under `b`
abbrev b_and_c : Search
b_and_c = Matches (codes "q") (codes "b c")

no_rule_where_it_is_refused : refused_allowance b_and_c ≡ record { texts = Some 0; rows = Some 1; rules = Some 1 }
no_rule_where_it_is_refused = refl

two_rules : (c : Content) (m : StoreState) (x : Table) → named_index m (codes "rules") x.columns b_and_c ≡ Some (codes "ri", as_rules four_rules)
    → (found_allowance c m (codes "rules") x (selection Star []) b_and_c []).rules ≡ Some 2
two_rules c m x index = ap (λ (o : Option (List ℕ × Index)). one_rule_more (rules_in_index o b_and_c)) index ∙ ap (λ (n : ℕ). Some (1 + n)) one_is_looked_at
