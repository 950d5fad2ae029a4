-- A SELECT only looks.
use Rattle.std.specs.Prelude.{ℕ, List, Option, Some, None, not, ◌||◌, refl}
use Rattle.std.specs.FinMap.{get}
use Rattle.st_parse.specs.declared.statements.Pred.{Pred}
use Rattle.db_cond.specs.Faults.{UnknownName, WrongValues, ValueTooLong, OutOfRange, NoIndexOfKind}
use Rattle.db_state.specs.States.{StoreState}
use Rattle.db_state.specs.Effects.{OnlyLooks}
use Rattle.db_state.specs.laws.OnlyLooking.{only_looks_by, only_looks_found, only_looks_unless}
use Rattle.db_state.specs.Columns.{first_unknown}
use Rattle.db_rows.specs.Checking.{has_beyond}
use Rattle.db_find.specs.Searches.{search_in}
use Rattle.db_select.specs.declared.views.View.{View}
use Rattle.db_select.specs.Predicates.{conds_in, label_in, named_columns}
use Rattle.db_select.specs.Checking.{has_wrong_values, is_out_of_range, is_too_long}
use Rattle.db_select.specs.Selecting.{lacks_index, query_refusal, select}
use Rattle.db_select.specs.Views.{is_whole, view_named}
use Rattle.db_select.specs.Statements.{select_from, select_statement}
use Rattle.db_select.specs.Choosing.{Selection}

table_only_looks : (m : StoreState) (want : Selection) (t : List ℕ) (preds : List Pred) → OnlyLooks m (select m want t preds)
table_only_looks m want t preds =
    let search = search_in preds in
    let conds = conds_in preds in
    only_looks_found m (get m.tables t) (UnknownName t) _ (λ x.
    only_looks_unless m (first_unknown (named_columns want preds) x.columns) UnknownName _
    (only_looks_by m (lacks_index m t x.columns search) NoIndexOfKind _
    (only_looks_by m (has_wrong_values x.columns want (label_in search) conds) WrongValues _
    (only_looks_by m (is_too_long search) ValueTooLong _
    (only_looks_by m (is_out_of_range search || has_beyond conds) OutOfRange _
    (only_looks_unless m (query_refusal m t x.columns search) (λ refusal. refusal) _ refl))))))

-- of a view or of a table
pub select_only_looks : (m : StoreState) (want : Selection) (t : List ℕ) (preds : List Pred) → OnlyLooks m (select_statement m want t preds)
select_only_looks m want t preds = go (view_named t)
  where
    go : (o : Option View) → OnlyLooks m (select_from o m want t preds)
    go (Some view) = only_looks_by m (not (is_whole want preds)) WrongValues _ refl
    go None = table_only_looks m want t preds
