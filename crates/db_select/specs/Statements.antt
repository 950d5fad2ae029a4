-- What a statement SELECT does, whatever it selects from.
use Rattle.std.specs.Prelude.{ℕ, ◌≡◌, Bool, true, not, ◌&&◌, is_some, List, [], ◌∷◌, Option, Some, None, codes, refl}
use Rattle.st_parse.specs.declared.statements.Pred.{Pred}
use Rattle.st_parse.specs.declared.statements.Pred.TheVariants.{Matches}
use Rattle.st_parse.specs.declared.statements.SelectList.TheVariants.{Star, CountAll, Items}
use Rattle.db_cond.specs.Faults.{WrongValues}
use Rattle.db_state.specs.States.{StoreState}
use Rattle.db_state.specs.Effects.{Effect, Refused}
use Rattle.db_select.specs.declared.views.View.{View}
use Rattle.db_select.specs.declared.views.View.TheVariants.{Waiting, Errors}
use Rattle.db_select.specs.Selecting.{select}
use Rattle.db_select.specs.Views.{is_whole, select_view, view_named}
use Rattle.db_select.specs.Choosing.{Selection, selection}

-- of what is only looked at, or of a table
abbrev pub select_from : Option View → StoreState → Selection → List ℕ → List Pred → Effect
select_from (Some view) m want t preds = select_view m view want preds
select_from None m want t preds = select m want t preds

-- WHAT A SELECT DOES
abbrev pub select_statement : StoreState → Selection → List ℕ → List Pred → Effect
select_statement m want t preds = select_from (view_named t) m want t preds

-- a view is asked for anything but all its lines or their number, which is refused whatever the state
abbrev pub is_wrong_view : Selection → List ℕ → List Pred → Bool
is_wrong_view want t preds = is_some (view_named t) && not (is_whole want preds)

-- computed examples
what_waits : (m : StoreState) → select_statement m (selection CountAll []) (codes "ctx_user_pending") [] ≡ select_view m Waiting (selection CountAll []) []
what_waits m = refl

all_errors : (m : StoreState) → select_statement m (selection Star []) (codes "ctx_user_index_errors") [] ≡ select_view m Errors (selection Star []) []
all_errors m = refl

no_predicate_on_a_view : (m : StoreState) → select_statement m (selection Star []) (codes "ctx_user_index_errors") (Matches (codes "q") (codes "a fox") ∷ []) ≡ Refused WrongValues
no_predicate_on_a_view m = refl

a_list_of_a_view : is_wrong_view (selection (Items []) []) (codes "ctx_user_pending") [] ≡ true
a_list_of_a_view = refl
