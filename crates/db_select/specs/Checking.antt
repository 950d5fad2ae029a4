-- The checks of a SELECT, behind those of its names and its index.
use Rattle.std.specs.Prelude.{ℕ, ℤ, pos, replicate, Bool, true, false, not, ◌||◌, ◌&&◌, List, [], ◌∷◌, Option, Some, None, codes, ◌≡◌, refl}
use Rattle.std.specs.List.{list_all}
use Rattle.std.specs.Ordering.{int_eq}
use Rattle.st_parse.specs.declared.statements.Cond.{Cond}
use Rattle.st_parse.specs.declared.statements.Item.{Item}
use Rattle.st_parse.specs.declared.statements.Item.TheVariants.{Column as ColumnItem, Score}
use Rattle.st_parse.specs.declared.statements.Operand.TheVariants.{Text, Number}
use Rattle.st_parse.specs.declared.statements.OrderItem.{OrderItem}
use Rattle.st_parse.specs.declared.statements.Compare.TheVariants.{Equal}
use Rattle.st_parse.specs.declared.statements.Cond.TheVariants.{Compare}
use Rattle.st_parse.specs.declared.statements.SelectList.{SelectList}
use Rattle.st_parse.specs.declared.statements.SelectList.TheVariants.{Star, CountAll, Items}
use Rattle.st_parse.specs.declared.statements.Whole.{Whole}
use Rattle.st_parse.specs.declared.statements.Whole.TheVariants.{Fits, Beyond}
use Rattle.tb_table.specs.declared.columns.Column.{Column}
use Rattle.tb_table.specs.Tables.{docs_columns}
use Rattle.db_cond.specs.Faults.{WrongValues, ValueTooLong, OutOfRange}
use Rattle.db_state.specs.Effects.{Effect, Refused, refuse}
use Rattle.db_rows.specs.Checking.{fit_columns, fit_sort, has_beyond, sort_of}
use Rattle.db_find.specs.Searches.{Search, Contains, Matches, has_long_document, has_number_out_of_range}
use Rattle.db_select.specs.Ordering.{down_by}
use Rattle.db_select.specs.Predicates.{label_in, below_seven}
use Rattle.db_select.specs.Choosing.{Selection, selection}

-- ---- labels

-- two labels are one; two numbers outside 64 bits count as the same label
abbrev pub same_label : Whole → Whole → Bool
same_label (Fits m) (Fits n) = int_eq m n
same_label (Fits m) Beyond = false
same_label Beyond (Fits n) = false
same_label Beyond Beyond = true

-- SCORE asks for the score of the CONTAINS with its label; a CATSEARCH has none
abbrev pub is_label_of : Option Whole → Whole → Bool
is_label_of None label = false
is_label_of (Some own) label = same_label own label

-- an item of the list is a column, or has the label
abbrev pub is_labelled : Option Whole → Item → Bool
is_labelled label (ColumnItem name) = true
is_labelled label (Score own) = is_label_of label own

-- each score of the list is that with the label
abbrev pub fit_labels : SelectList → Option Whole → Bool
fit_labels Star label = true
fit_labels CountAll label = true
fit_labels (Items items) label = list_all (is_labelled label) items

-- ---- the order

-- Rows are ordered by numbers and short texts, and by no CLOB.
abbrev pub is_sortable : List Column → Item → Bool
is_sortable columns (ColumnItem name) = fit_sort [] (sort_of name columns)
is_sortable columns (Score label) = true

-- by such columns, and by the score with the label
abbrev pub fits_order : List Column → Option Whole → OrderItem → Bool
fits_order columns label o = is_labelled label o.item && is_sortable columns o.item

abbrev pub fit_orders : List Column → Option Whole → List OrderItem → Bool
fit_orders columns label orders = list_all (fits_order columns label) orders

-- ---- the numbers of a search

abbrev pub is_out_of_range : Option Search → Bool
is_out_of_range None = false
is_out_of_range (Some s) = has_number_out_of_range s

-- the document of a MATCHES is over its length
abbrev pub is_too_long : Option Search → Bool
is_too_long None = false
is_too_long (Some s) = has_long_document s

-- ---- the checks in their order

-- wrong values, a document that is too long, and a number out of its range
abbrev pub check_parts : Bool → Bool → Bool → Effect → Effect
check_parts wrong_values too_long out_of_range done = refuse wrong_values WrongValues (refuse too_long ValueTooLong (refuse out_of_range OutOfRange done))

abbrev pub has_wrong_values : List Column → Selection → Option Whole → List Cond → Bool
has_wrong_values columns want label conds = (not (fit_labels want.list label) || not (fit_orders columns label want.orders)) || not (fit_columns columns conds)

abbrev pub check_values : List Column → Selection → Option Search → List Cond → Effect → Effect
check_values columns want search conds done =
    check_parts
    (has_wrong_values columns want (label_in search) conds)
    (is_too_long search)
    (is_out_of_range search || has_beyond conds)
    done

-- computed examples
abbrev its_search : List ℕ → Option Whole → ℤ → Option Search
its_search query label above = Some (Contains (codes "body") query label (Fits above))

abbrev score_one : Selection
score_one = selection (Items (ColumnItem (codes "id") ∷ Score (Fits (pos 1)) ∷ [])) []

abbrev body_is_fox : Cond
body_is_fox = Compare (codes "body") Equal (Text (codes "fox"))

abbrev price_is_beyond : Cond
price_is_beyond = Compare (codes "price") Equal (Number Beyond)

-- SCORE(1) where CONTAINS has no label, and a threshold over 100
label_and_threshold : (done : Effect) → check_values docs_columns score_one (its_search [] None (pos 101)) [] done ≡ Refused WrongValues
label_and_threshold done = refl

other_label : (done : Effect) → check_values docs_columns score_one (its_search [] (Some (Fits (pos 2))) (pos 101)) [] done ≡ Refused WrongValues
other_label done = refl

-- SCORE(1) without a CONTAINS
no_search_has_a_score : (done : Effect) → check_values docs_columns score_one None [] done ≡ Refused WrongValues
no_search_has_a_score done = refl

-- a condition on the CLOB body, beside a threshold over 100
condition_and_threshold : (done : Effect) → check_values docs_columns (selection Star []) (its_search (codes "quick") None (pos 101)) (body_is_fox ∷ []) done ≡ Refused WrongValues
condition_and_threshold done = refl

threshold_alone : (done : Effect) → check_values docs_columns (selection CountAll []) (its_search [] None (pos 101)) [] done ≡ Refused OutOfRange
threshold_alone done = refl

-- a number outside 64 bits in a condition
condition_beyond : (done : Effect) → check_values docs_columns (selection Star []) (its_search (codes "a b") None (pos 0)) (price_is_beyond ∷ []) done ≡ Refused OutOfRange
condition_beyond done = refl

-- MATCHES of 4001 bytes: beside SCORE(1), which it hasn't, and beside a number outside 64 bits in a condition
abbrev too_long : Option Search
too_long = Some (Matches (codes "q") (replicate 4001 120))

no_score_of_a_document : (done : Effect) → check_values docs_columns score_one too_long [] done ≡ Refused WrongValues
no_score_of_a_document done = refl

long_document : (done : Effect) → check_values docs_columns (selection Star []) too_long (price_is_beyond ∷ []) done ≡ Refused ValueTooLong
long_document done = refl

a_document : (done : Effect) → check_values docs_columns (selection Star []) (Some (Matches (codes "q") (replicate 4000 120))) [] done ≡ done
a_document done = refl

label_beyond : (done : Effect) → check_values docs_columns (selection (Items (Score Beyond ∷ [])) []) (its_search (codes "quick") (Some Beyond) (pos 0)) [] done ≡ Refused OutOfRange
label_beyond done = refl

a_good_search : (done : Effect) → check_values docs_columns score_one (its_search (codes "quick") (Some (Fits (pos 1))) (pos 0)) (below_seven (codes "id") ∷ []) done ≡ done
a_good_search done = refl

conditions_alone : (done : Effect) → check_values docs_columns (selection Star []) None (below_seven (codes "id") ∷ []) done ≡ done
conditions_alone done = refl

-- ORDER BY body DESC, which is a CLOB; and ORDER BY price DESC, of COUNT(*) too
by_a_clob : (done : Effect) → check_values docs_columns (selection CountAll (down_by (codes "body") ∷ [])) None [] done ≡ Refused WrongValues
by_a_clob done = refl

by_a_number : (done : Effect) → check_values docs_columns (selection Star (down_by (codes "price") ∷ [])) None [] done ≡ done
by_a_number done = refl

-- ORDER BY SCORE(1) without a CONTAINS, beside one with another label, and beside its own
abbrev up_by_score : Whole → OrderItem
up_by_score label = record { item = Score label; down = false }

by_no_score : (done : Effect) → check_values docs_columns (selection Star (up_by_score (Fits (pos 1)) ∷ [])) None [] done ≡ Refused WrongValues
by_no_score done = refl

by_another_score : (done : Effect) → check_values docs_columns (selection Star (up_by_score (Fits (pos 1)) ∷ [])) (its_search [] (Some (Fits (pos 2))) (pos 0)) [] done ≡ Refused WrongValues
by_another_score done = refl

by_its_score : (done : Effect) → check_values docs_columns (selection Star (up_by_score (Fits (pos 1)) ∷ [])) (its_search (codes "quick") (Some (Fits (pos 1))) (pos 0)) [] done ≡ done
by_its_score done = refl

-- numbers outside 64 bits as labels
by_a_score_beyond : (done : Effect) → check_values docs_columns (selection Star (up_by_score Beyond ∷ [])) (its_search (codes "quick") (Some Beyond) (pos 0)) [] done ≡ Refused OutOfRange
by_a_score_beyond done = refl
