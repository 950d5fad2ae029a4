-- How much a statement may look up.
use Rattle.std.specs.Prelude.{pos, ◌≡◌, List, [], ◌∷◌, Option, Some, None, codes, refl}
use Rattle.ct_keep.specs.Content.{Content}
use Rattle.ct_keep.specs.KeeperViews.{KeeperView}
use Rattle.ct_keep.specs.declared.keepers.KeepFault.{KeepFault}
use Rattle.st_parse.specs.declared.procedures.Procedure.{Procedure}
use Rattle.st_parse.specs.declared.procedures.Procedure.TheVariants.{PolicyTokens, SyncIndex, OptimizeIndex, ResultSet, Define, Thesaurus}
use Rattle.st_parse.specs.declared.statements.Arg.{Arg}
use Rattle.st_parse.specs.declared.statements.Arg.TheVariants.{Text as TextArg}
use Rattle.st_parse.specs.declared.statements.Pred.TheVariants.{Contains, Matches}
use Rattle.st_parse.specs.declared.statements.SelectList.TheVariants.{CountAll}
use Rattle.st_parse.specs.declared.statements.Statement.{Statement}
use Rattle.st_parse.specs.declared.statements.Statement.TheVariants.{CreateTable, DropTable, DropIndex, CreateIndex, Insert, Update, Delete, Select, Exec, Commit}
use Rattle.st_parse.specs.declared.statements.Whole.TheVariants.{Fits}
use Rattle.db_looks.specs.Allowances.{Allowance, unbounded, LooksOver}
use Rattle.db_state.specs.States.{StoreState, StandsForState}
use Rattle.db_hits.specs.Looking.{result_allowance}
use Rattle.db_select.specs.Looking.{select_allowance}
use Rattle.db_select.specs.Choosing.{selection}

-- what the call of a procedure may look up
abbrev pub call_allowance : Content → StoreState → Procedure → List Arg → Allowance
call_allowance c m PolicyTokens args = unbounded
call_allowance c m SyncIndex args = unbounded
call_allowance c m OptimizeIndex args = unbounded
call_allowance c m ResultSet args = result_allowance c m args
call_allowance c m (Define definition) args = unbounded
call_allowance c m (Thesaurus procedure) args = unbounded

-- WHAT A STATEMENT MAY LOOK UP of a content that stands for a state. Something is said of searches alone.
abbrev pub allowance : Content → StoreState → Statement → Allowance
allowance c m (Select list table preds orders) = select_allowance c m (selection list orders) table preds
allowance c m (CreateTable name columns) = unbounded
allowance c m (CreateIndex name table column kind parameters parallel) = unbounded
allowance c m (Insert table columns values) = unbounded
allowance c m (Update table assigns conds) = unbounded
allowance c m (Delete table conds) = unbounded
allowance c m (DropTable name) = unbounded
allowance c m (DropIndex name) = unbounded
allowance c m (Exec procedure args) = call_allowance c m procedure args
allowance c m Commit = unbounded

-- However the statement was answered, it looked up no more than it may, of each content and of each state that it stands for.
abbrev pub LooksAsAllowed : Statement → KeeperView → KeeperView → Option KeepFault → Type 0
LooksAsAllowed s old new fault = LooksOver StandsForState (λ c m. allowance c m s) old new fault

abbrev pub CallLooksAsAllowed : Procedure → List Arg → KeeperView → KeeperView → Option KeepFault → Type 0
CallLooksAsAllowed procedure args old new fault = LooksOver StandsForState (λ c m. call_allowance c m procedure args) old new fault

-- computed examples: nothing is said of an INSERT, nor of a COUNT(*) without a text predicate; and a statement that is refused may look up one row
an_insert : (c : Content) (m : StoreState) → allowance c m (Insert (codes "docs") None []) ≡ unbounded
an_insert c m = refl

a_count : (c : Content) (m : StoreState) → allowance c m (Select CountAll (codes "docs") [] []) ≡ unbounded
a_count c m = refl

a_refusal : (c : Content) (m : StoreState) → allowance c m (Select CountAll (codes "ctx_user_pending") (Contains (codes "body") (codes "fox") None (Fits (pos 0)) ∷ []) []) ≡ record { texts = Some 0; rows = Some 1; rules = None }
a_refusal c m = refl

-- and by MATCHES one rule
a_refused_match : (c : Content) (m : StoreState) → allowance c m (Select CountAll (codes "ctx_user_pending") (Matches (codes "q") (codes "fox") ∷ []) []) ≡ record { texts = Some 0; rows = Some 1; rules = Some 1 }
a_refused_match c m = refl

a_refused_call : (c : Content) (m : StoreState) → allowance c m (Exec ResultSet (TextArg (codes "no name") ∷ [])) ≡ record { texts = Some 0; rows = Some 0; rules = None }
a_refused_call c m = refl
