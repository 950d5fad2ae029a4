-- What RESULT_SET looks up is within what it may.
use Rattle.std.specs.Prelude.{ℕ, ◌+◌, ◌≤◌, Bool, true, false, List, Option, Some, None}
use Rattle.std.specs.Bool.{if◌then◌else◌}
use Rattle.std.specs.FinMap.{get}
use Rattle.std.proofs.Common.{arith}
use Rattle.ct_keep.specs.Content.{Content}
use Rattle.ct_keep.specs.KeeperViews.{Counts, KeeperView, ReadsKeeper}
use Rattle.ct_keep.specs.Looks.{RisesBy, no_looks}
use Rattle.ct_keep.specs.declared.keepers.KeepFault.{KeepFault}
use Rattle.st_parse.specs.declared.statements.Arg.{Arg}
use Rattle.ix_search.specs.Looking.{QueriesLookFew}
use Rattle.ix_indexes.specs.Indexes.{Index}
use Rattle.db_call.specs.Arguments.{argument_name}
use Rattle.db_looks.specs.Allowances.{CountsWithin, LooksOver}
use Rattle.db_state.specs.States.{StoreState, StandsForState}
use Rattle.db_state.specs.Effects.{is_done}
use Rattle.db_find.specs.laws.Looking.{in_rows}
use Rattle.db_hits.specs.Calling.{parts_in, query_in, result_set, search_for}
use Rattle.db_hits.specs.Looking.{ResultLooksFew, ResultsLookFew, allowance_by, found_looks, index_allowance, index_looks, looks_by, named_allowance, named_looks, parts_or_none, refused_allowance, result_allowance}

nothing_within : (old new : Counts) → RisesBy no_looks old new → CountsWithin refused_allowance old new
nothing_within old new rises = record { texts = rises.texts; rows = rises.rows; rules = tt }

-- where it isn't refused, of the index of the name, if there is one
module _ (looking : QueriesLookFew) (c : Content) (m : StoreState) (args : List Arg) (old new : Counts) where
  index_within : (i : List ℕ) (found : Option Index) → RisesBy (index_looks c m i found args) old new → CountsWithin (index_allowance c m i found args) old new
  index_within i None rises = nothing_within old new rises
  index_within i (Some x) rises =
      let rows : new.rows ≤ old.rows + (found_looks c m i x (query_in args) (parts_or_none (parts_in args))).rows = rises.rows in
      let search = in_rows looking c m.tables m.thesauri (Some (i, x)) (search_for (query_in args)) in
      record { texts = rises.texts; rows = omega (arith, rows, search); rules = tt }

  name_within : (name : Option (List ℕ)) → RisesBy (named_looks c m args name) old new → CountsWithin (named_allowance c m args name) old new
  name_within None rises = nothing_within old new rises
  name_within (Some i) rises = index_within i (get m.indexes i) rises

  -- by whether it is refused
  effect_within : (done : Bool) (name : Option (List ℕ)) → RisesBy (if done then named_looks c m args name else no_looks) old new → CountsWithin (if done then named_allowance c m args name else refused_allowance) old new
  effect_within false name rises = nothing_within old new rises
  effect_within true name rises = name_within name rises

-- WHAT RESULT_SET LOOKS UP is within what it may.
pub results_look_few : QueriesLookFew → ResultsLookFew
results_look_few looking c m args old new rises = effect_within looking c m args old new (is_done (result_set m args)) (argument_name 0 args) rises

-- The same of a keeper of which a RESULT_SET only read.
pub result_within : {K : Type 0} (view : K → KeeperView) (old new : K) (args : List Arg) (fault : Option KeepFault) → ResultsLookFew → ReadsKeeper (view old) (view new) fault
    → ResultLooksFew view old new args → LooksOver StandsForState (λ c m. result_allowance c m args) (view old) (view new) fault
result_within view old new args fault law reads few = record {
  within = λ m c holds stands. record { counts = law c m args (view old).counts (view new).counts (few m c holds stands); unchanged = λ said. reads.content };
}
