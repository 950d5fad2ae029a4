-- What a SELECT does is the same in states that are alike.
use Rattle.std.proofs.Common.{◌≡◌, ℕ, Bool, List, [], ◌∷◌, map, Option, Some, None, refl, ap, ◌∙◌, inl, inr}
use Rattle.std.specs.Prelude.{ℤ, ◌++◌, ◌||◌, not, is_none}
use Rattle.std.specs.List.{flat_map}
use Rattle.std.specs.Option.{option_map}
use Rattle.std.specs.FinMap.{get, entries}
use Rattle.ct_base.specs.declared.lists.Value.{Value}
use Rattle.st_parse.specs.declared.statements.Cond.{Cond}
use Rattle.st_parse.specs.declared.statements.Pred.{Pred}
use Rattle.tb_table.specs.declared.columns.Column.{Column}
use Rattle.tb_table.specs.Tables.{Table}
use Rattle.ix_indexes.specs.Indexes.{Body, Index}
use Rattle.db_cond.specs.Faults.{NoIndexOfKind, OutOfRange, Refusal, UnknownName, ValueTooLong, WrongValues}
use Rattle.db_state.specs.States.{StoreState}
use Rattle.db_state.specs.Columns.{first_unknown}
use Rattle.db_state.specs.Effects.{Effect, Does, refuse, refuse_by}
use Rattle.db_state.specs.Alike.{DoesSamePlain, plain_state, plain_body, plain_effect, plain_index, plain_indexes}
use Rattle.db_state.specs.laws.Alike.{entries-plain, plain_entry, waiting_plain}
use Rattle.db_state.specs.laws.AlikeChecks.{does_plain, refuse_by_same, refuse_same, with_found_same}
use Rattle.db_rows.specs.Checking.{has_beyond}
use Rattle.db_find.specs.Finding.{found_in, refused_by}
use Rattle.db_find.specs.Searches.{Search, search_in}
use Rattle.db_find.specs.Seeking.{index_of_search}
use Rattle.db_find.specs.laws.Alike.{found_in-plain, needed_plain, refused_by-plain}
use Rattle.db_select.specs.declared.views.View.{View}
use Rattle.db_select.specs.declared.views.View.TheVariants.{Waiting, Errors}
use Rattle.db_select.specs.Checking.{check_values, has_wrong_values, is_out_of_range, is_too_long}
use Rattle.db_select.specs.Choosing.{Selection, asked_by}
use Rattle.db_select.specs.Hits.{asked_of_rows, asked_rows, found_rows, hits}
use Rattle.db_select.specs.Listing.{rows_reply}
use Rattle.db_select.specs.Predicates.{conds_in, label_in, named_columns}
use Rattle.db_select.specs.Selecting.{lacks_index, query_refusal, select, select_rows}
use Rattle.db_select.specs.Statements.{select_from, select_statement}
use Rattle.db_select.specs.Views.{faulty_in, is_whole, lines_of, rows_shown, select_view, view_line, view_lines, view_named, view_reply, with_its_fault, without_fault}

-- ---- of a view

faulty_plain : (b : Body) → faulty_in (plain_body b) ≡ faulty_in b
faulty_plain (inl c) = refl
faulty_plain (inr (inl b)) = refl
faulty_plain (inr (inr b)) = refl

shown_plain : (view : View) (x : Index) → rows_shown view (plain_index x) ≡ rows_shown view x
shown_plain Waiting x = ap (λ (rows : List ℤ). map without_fault rows) (waiting_plain x.body)
shown_plain Errors x = ap (λ (rows : List (ℤ × List ℕ)). map with_its_fault rows) (faulty_plain x.body)

lines_plain : (view : View) (es : List (List ℕ × Index)) → flat_map (lines_of view) (map plain_entry es) ≡ flat_map (lines_of view) es
lines_plain view [] = refl
lines_plain view (e ∷ es) = (λ j. map (view_line e.0) (shown_plain view e.1 j) ++ lines_plain view es j)

select_view_plain : (m : StoreState) (view : View) (want : Selection) (preds : List Pred)
    → plain_effect (select_view (plain_state m) view want preds) ≡ plain_effect (select_view m view want preds)
select_view_plain m view want preds =
    refuse_same (not (is_whole want preds)) WrongValues (Does (plain_state m) (view_reply want.list (view_lines view (plain_indexes m.indexes))))
    (Does m (view_reply want.list (view_lines view m.indexes)))
    (ap (λ (lines : List (List Value)). plain_effect (Does (plain_state m) (view_reply want.list lines)))
    (ap (flat_map (lines_of view)) (entries-plain m.indexes) ∙ lines_plain view (entries m.indexes))
    ∙ does_plain m (view_reply want.list (view_lines view m.indexes)))

-- ---- of a table

lacks_plain : (m : StoreState) (t : List ℕ) (columns : List Column) (search : Option Search)
    → lacks_index (plain_state m) t columns search ≡ lacks_index m t columns search
lacks_plain m t columns None = refl
lacks_plain m t columns (Some s) = ap (λ (o : Option Index). is_none o) (needed_plain m t columns s) ∙ go (index_of_search m t columns s)
  where
    go : (o : Option Index) → is_none (option_map plain_index o) ≡ is_none o
    go None = refl
    go (Some x) = refl

refusal_plain : (m : StoreState) (t : List ℕ) (columns : List Column) (search : Option Search)
    → query_refusal (plain_state m) t columns search ≡ query_refusal m t columns search
refusal_plain m t columns None = refl
refusal_plain m t columns (Some s) =
    ap (λ (o : Option Index). refused_by m.tables m.thesauri o s) (needed_plain m t columns s) ∙ refused_by-plain m.tables m.thesauri
    (index_of_search m t columns s) s

found_plain : (m : StoreState) (t : List ℕ) (x : Table) (search : Option Search) → found_rows (plain_state m) t x search ≡ found_rows m t x search
found_plain m t x None = refl
found_plain m t x (Some s) =
    ap (λ (o : Option Index). found_in m.tables m.thesauri o s) (needed_plain m t x.columns s) ∙ found_in-plain m.tables m.thesauri
    (index_of_search m t x.columns s) s

-- the rows that it gives
pub hits_plain : (m : StoreState) (t : List ℕ) (x : Table) (want : Selection) (search : Option Search) (conds : List Cond)
    → hits (plain_state m) t x want search conds ≡ hits m t x want search conds
hits_plain m t x want search conds = ap (asked_rows x (asked_by want (asked_of_rows search)) conds) (found_plain m t x search)

check_values_same : (columns : List Column) (want : Selection) (search : Option Search) (conds : List Cond) (e f : Effect) → plain_effect e ≡ plain_effect f
    → plain_effect (check_values columns want search conds e) ≡ plain_effect (check_values columns want search conds f)
check_values_same columns want search conds e f same =
    refuse_same (has_wrong_values columns want (label_in search) conds) WrongValues (short e) (short f)
    (refuse_same (is_too_long search) ValueTooLong (within e) (within f)
    (refuse_same (is_out_of_range search || has_beyond conds) OutOfRange e f same))
  where
    within : Effect → Effect
    within done = refuse (is_out_of_range search || has_beyond conds) OutOfRange done

    short : Effect → Effect
    short done = refuse (is_too_long search) ValueTooLong (within done)

select_rows_plain : (m : StoreState) (t : List ℕ) (x : Table) (want : Selection) (search : Option Search) (conds : List Cond)
    → plain_effect (select_rows (plain_state m) t x want search conds) ≡ plain_effect (select_rows m t x want search conds)
select_rows_plain m t x want search conds =
    ap (λ (b : Bool). plain_effect (refuse b NoIndexOfKind (checked (plain_state m)))) (lacks_plain m t x.columns search)
    ∙ refuse_same (lacks_index m t x.columns search) NoIndexOfKind (checked (plain_state m)) (checked m)
    (check_values_same x.columns want search conds (asked (plain_state m)) (asked m)
    (ap (λ (o : Option Refusal). plain_effect (refuse_by o (λ refusal. refusal) (given (plain_state m)))) (refusal_plain m t x.columns search)
    ∙ refuse_by_same (query_refusal m t x.columns search) (λ refusal. refusal) (given (plain_state m)) (given m)
    (ap (λ (rows : List (ℤ × ℕ)). plain_effect (Does (plain_state m) (rows_reply m.tables t x.columns want.list rows))) (hits_plain m t x want search conds)
    ∙ does_plain m (rows_reply m.tables t x.columns want.list (hits m t x want search conds)))))
  where
    given : StoreState → Effect
    given n = Does n (rows_reply n.tables t x.columns want.list (hits n t x want search conds))

    asked : StoreState → Effect
    asked n = refuse_by (query_refusal n t x.columns search) (λ refusal. refusal) (given n)

    checked : StoreState → Effect
    checked n = check_values x.columns want search conds (asked n)

select_plain : (m : StoreState) (want : Selection) (t : List ℕ) (preds : List Pred)
    → plain_effect (select (plain_state m) want t preds) ≡ plain_effect (select m want t preds)
select_plain m want t preds =
    with_found_same (get m.tables t) (UnknownName t) (known (plain_state m)) (known m)
    (λ x. refuse_by_same (first_unknown (named_columns want preds) x.columns) UnknownName (rows (plain_state m) x) (rows m x)
    (select_rows_plain m t x want (search_in preds) (conds_in preds)))
  where
    rows : StoreState → Table → Effect
    rows n x = select_rows n t x want (search_in preds) (conds_in preds)

    known : StoreState → Table → Effect
    known n x = refuse_by (first_unknown (named_columns want preds) x.columns) UnknownName (rows n x)

-- ---- the statement

pub select_statement_plain : (want : Selection) (t : List ℕ) (preds : List Pred) → DoesSamePlain (λ m. select_statement m want t preds)
select_statement_plain want t preds m = go (view_named t)
  where
    go : (o : Option View) → plain_effect (select_from o (plain_state m) want t preds) ≡ plain_effect (select_from o m want t preds)
    go (Some view) = select_view_plain m view want preds
    go None = select_plain m want t preds
