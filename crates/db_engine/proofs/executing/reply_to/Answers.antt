use Rattle.std.proofs.Common.{◌≡◌, ℕ, ap, sym, subst, List, None, Result, Vec, refl, ◌∙◌}
use Rattle.std.proofs.lemmas.Result.{err_from_is_err_and}
use Rattle.std.specs.declared.alloc.Global.{Global}
use Rattle.ct_keep.specs.KeeperViews.{fault_of}
use Rattle.ct_keep.specs.declared.keepers.KeepFault.{KeepFault}
use Rattle.ct_keep.specs.laws.Composing.{reads_none}
use Rattle.st_parse.specs.declared.statements.ColumnText.{ColumnText}
use Rattle.st_parse.specs.declared.statements.Statement.{Statement}
use Rattle.st_parse.specs.declared.statements.Statement.TheVariants.{Commit}
use Rattle.db_state.specs.Effects.{Effect, reply_by}
use Rattle.db_state.specs.Plans.{GivesReply}
use Rattle.db_change.specs.Creating.{create_table}
use Rattle.db_index.specs.declared.kinds.BuiltKind.{BuiltKind}
use Rattle.db_index.specs.Indexing.{create_index}
use Rattle.db_change.specs.Inserting.{insert_into}
use Rattle.db_change.specs.Updating.{update}
use Rattle.db_change.specs.Deleting.{delete_from}
use Rattle.db_change.specs.Dropping.{drop_table}
use Rattle.db_index.specs.Dropping.{drop_index}
use Rattle.st_parse.specs.declared.statements.Assign.{Assign}
use Rattle.db_looks.specs.laws.Composing.{over_as, over_unsaid}
use Rattle.db_state.specs.States.{StandsForState, StoreState}
use Rattle.db_select.specs.Looking.{select_allowance}
use Rattle.db_select.specs.Statements.{select_statement}
use Rattle.db_select.specs.Choosing.{selection}
use Rattle.db_select.specs.laws.Allowing.{select_within}
use Rattle.db_select.specs.laws.Selects.{select_only_looks}
use Rattle.db_engine.specs.Looking.{allowance, call_allowance}
use Rattle.db_engine.specs.Steps.{call, effect}
use Rattle.db_engine.specs.Executing.{done_line, is_fixed}
use Rattle.db_state.specs.laws.Serving.{serves_short, serves_look, serves_as}
use Rattle.db_engine.proofs.executing.reply_to.Goals as goal

pub returns-in-CreateTable-clause-serves : goal.returns-in-CreateTable-clause-serves
returns-in-CreateTable-clause-serves g c =
    serves_as _ _ _ _ _ _ c.create_table.result
    (λ m. ap (effect m) c.in-CreateTable.is ∙ ap (λ (cs : List ColumnText). create_table m c.in-CreateTable.name cs) (sym c.as_slice.ensures)) (ap done_line c.in-CreateTable.is) c.create_table.ensures

pub returns-in-CreateIndex-clause-serves : goal.returns-in-CreateIndex-clause-serves
returns-in-CreateIndex-clause-serves g c =
    let by_kind : StoreState → BuiltKind → Effect = λ m kind. create_index m c.in-CreateIndex.name c.in-CreateIndex.table c.in-CreateIndex.column kind c.in-CreateIndex.parameters c.in-CreateIndex.parallel in
    serves_as (λ m. by_kind m c.built_kind-built.result) _ _ _ _ _ c.create_index.result
    (λ m. ap (effect m) c.in-CreateIndex.is ∙ ap (by_kind m) (sym c.built_kind-built.ensures)) (ap done_line c.in-CreateIndex.is) c.create_index.ensures

pub returns-in-Insert-clause-serves : goal.returns-in-Insert-clause-serves
returns-in-Insert-clause-serves g c =
    serves_as (λ m. insert_into m c.in-Insert.table c.in-Insert.columns c.as_slice-in-Insert.result.now) _ _ _ _ _ c.insert_into.result
    (λ m. ap (effect m) c.in-Insert.is ∙ ap (insert_into m c.in-Insert.table c.in-Insert.columns) (sym c.as_slice-in-Insert.ensures)) (ap done_line c.in-Insert.is) c.insert_into.ensures

pub returns-in-Select-clause-serves : goal.returns-in-Select-clause-serves
returns-in-Select-clause-serves g c =
    let want = selection c.in-Select.list c.as_slice-in-Select-2.result.now in
    let lent : selection c.in-Select.list c.in-Select.orders ≡ want = ap (selection c.in-Select.list) (sym c.as_slice-in-Select-2.ensures) in
    serves_as (λ m. select_statement m want c.in-Select.table c.as_slice-in-Select.result.now) _ None _ _ _ c.select.result
    (λ m. ap (effect m) c.in-Select.is ∙ λ i. select_statement m (lent i) c.in-Select.table (sym c.as_slice-in-Select.ensures i)) (ap done_line c.in-Select.is)
    (serves_look _ _ _ _ c.select.ensures.reads c.select.ensures.reply (λ m. select_only_looks m want c.in-Select.table c.as_slice-in-Select.result.now))

pub returns-in-Exec-clause-serves : goal.returns-in-Exec-clause-serves
returns-in-Exec-clause-serves g c =
    serves_as _ _ _ _ _ _ c.call.result (λ m. ap (effect m) c.in-Exec.is) (ap done_line c.in-Exec.is) c.call.ensures.serves

-- ---- changes of rows, and what goes

pub returns-in-DropTable-clause-serves : goal.returns-in-DropTable-clause-serves
returns-in-DropTable-clause-serves g c =
    serves_as (λ m. drop_table m c.in-DropTable.name) _ _ _ _ _ c.drop_table.result (λ m. ap (effect m) c.in-DropTable.is) (ap done_line c.in-DropTable.is) c.drop_table.ensures.done

pub returns-in-DropTable-clause-may : goal.returns-in-DropTable-clause-may
returns-in-DropTable-clause-may g c = λ k holds full. absurd (c.drop_table.ensures.never_full k holds full)

pub returns-in-DropIndex-clause-serves : goal.returns-in-DropIndex-clause-serves
returns-in-DropIndex-clause-serves g c =
    serves_as (λ m. drop_index m c.in-DropIndex.name) _ _ _ _ _ c.drop_index.result (λ m. ap (effect m) c.in-DropIndex.is) (ap done_line c.in-DropIndex.is) c.drop_index.ensures.done

pub returns-in-DropIndex-clause-may : goal.returns-in-DropIndex-clause-may
returns-in-DropIndex-clause-may g c = λ k holds full. absurd (c.drop_index.ensures.never_full k holds full)

pub returns-in-Update-clause-serves : goal.returns-in-Update-clause-serves
returns-in-Update-clause-serves g c =
    serves_as (λ m. update m c.in-Update.table c.as_slice-in-Update.result.now c.as_slice-in-Update-2.result.now) _ _ _ _ _ c.update.result
    (λ m. ap (effect m) c.in-Update.is ∙ ap (λ (assigns : List Assign). update m c.in-Update.table assigns c.in-Update.conds) (sym c.as_slice-in-Update.ensures) ∙ ap (update m c.in-Update.table c.as_slice-in-Update.result.now) (sym c.as_slice-in-Update-2.ensures))
    (ap done_line c.in-Update.is) c.update.ensures

pub returns-in-Delete-clause-serves : goal.returns-in-Delete-clause-serves
returns-in-Delete-clause-serves g c =
    serves_as (λ m. delete_from m c.in-Delete.table c.as_slice-in-Delete.result.now) _ _ _ _ _ c.delete_from.result
    (λ m. ap (effect m) c.in-Delete.is ∙ ap (delete_from m c.in-Delete.table) (sym c.as_slice-in-Delete.ensures)) (ap done_line c.in-Delete.is) c.delete_from.ensures.done

pub returns-in-Delete-clause-may : goal.returns-in-Delete-clause-may
returns-in-Delete-clause-may g c = λ k holds full. absurd (c.delete_from.ensures.never_full k holds full)

-- ---- COMMIT

pub returns-in_err-fixed_reply-in-Commit-clause-serves : goal.returns-in_err-fixed_reply-in-Commit-clause-serves
returns-in_err-fixed_reply-in-Commit-clause-serves g c = serves_short _ _ _ _ _ (reads_none _ c.requires.ready) (err_from_is_err_and _ c.from_residual.ensures.1)

pub returns-in_ok-fixed_reply-in-Commit-clause-serves : goal.returns-in_ok-fixed_reply-in-Commit-clause-serves
returns-in_ok-fixed_reply-in-Commit-clause-serves g c =
    serves_as (λ m. effect m Commit) _ None _ _ _ _ (λ m. ap (effect m) c.in-Commit.is) (ap done_line c.in-Commit.is)
    (serves_look (λ m. effect m Commit) _ _ _ (reads_none _ c.requires.ready) (λ m k holds stands. c.in_ok-fixed_reply-in-Commit.ensures) (λ m. refl))

pub returns-in_ok-fixed_reply-in-Commit-clause-fixed : goal.returns-in_ok-fixed_reply-in-Commit-clause-fixed
returns-in_ok-fixed_reply-in-Commit-clause-fixed g c = λ m fixed. c.in_ok-fixed_reply-in-Commit.ensures ∙ sym (ap (λ (s : Statement). reply_by (effect m s)) c.in-Commit.is)

-- ---- replies that are the same in every state

gives_as : (result : Result (Vec ℕ Global) KeepFault) (effect other : Effect) → other ≡ effect → GivesReply result effect → GivesReply result other
gives_as result effect other is gives = subst (GivesReply result) (sym is) gives

pub returns-in-Exec-clause-fixed : goal.returns-in-Exec-clause-fixed
returns-in-Exec-clause-fixed g c = λ m fixed.
    gives_as c.call.result (call m c.in-Exec.procedure c.in-Exec.args) (effect m c.args.statement.now) (ap (effect m) c.in-Exec.is) (c.call.ensures.fixed m (sym (ap is_fixed c.in-Exec.is) ∙ fixed))

-- ---- what it looks up, of which something is said of a search

pub returns-in-Select-clause-looks : goal.returns-in-Select-clause-looks
returns-in-Select-clause-looks g c =
    let want = selection c.in-Select.list c.as_slice-in-Select-2.result.now in
    let lent : selection c.in-Select.list c.in-Select.orders ≡ want = ap (selection c.in-Select.list) (sym c.as_slice-in-Select-2.ensures) in
    over_as StandsForState (λ k m. select_allowance k m want c.in-Select.table c.as_slice-in-Select.result.now) _ _ _ _
    (λ k m. ap (allowance k m) c.in-Select.is ∙ λ i. select_allowance k m (lent i) c.in-Select.table (sym c.as_slice-in-Select.ensures i))
    (select_within g.K.Keeper.view c.args.keeper.now c.select.new.keeper want c.in-Select.table c.as_slice-in-Select.result.now (fault_of c.select.result) c.looking_law.ensures c.select.ensures.reads c.select.ensures.at_most)

pub returns-in-CreateTable-clause-looks : goal.returns-in-CreateTable-clause-looks
returns-in-CreateTable-clause-looks g c = over_unsaid StandsForState _ _ _ _ (λ k m. ap (allowance k m) c.in-CreateTable.is)

pub returns-in-CreateIndex-clause-looks : goal.returns-in-CreateIndex-clause-looks
returns-in-CreateIndex-clause-looks g c = over_unsaid StandsForState _ _ _ _ (λ k m. ap (allowance k m) c.in-CreateIndex.is)

pub returns-in-Insert-clause-looks : goal.returns-in-Insert-clause-looks
returns-in-Insert-clause-looks g c = over_unsaid StandsForState _ _ _ _ (λ k m. ap (allowance k m) c.in-Insert.is)

pub returns-in-Exec-clause-looks : goal.returns-in-Exec-clause-looks
returns-in-Exec-clause-looks g c =
    over_as StandsForState (λ k m. call_allowance k m c.in-Exec.procedure c.in-Exec.args) _ _ _ _ (λ k m. ap (allowance k m) c.in-Exec.is) c.call.ensures.looks

pub returns-in-DropTable-clause-looks : goal.returns-in-DropTable-clause-looks
returns-in-DropTable-clause-looks g c = over_unsaid StandsForState _ _ _ _ (λ k m. ap (allowance k m) c.in-DropTable.is)

pub returns-in-DropIndex-clause-looks : goal.returns-in-DropIndex-clause-looks
returns-in-DropIndex-clause-looks g c = over_unsaid StandsForState _ _ _ _ (λ k m. ap (allowance k m) c.in-DropIndex.is)

pub returns-in-Update-clause-looks : goal.returns-in-Update-clause-looks
returns-in-Update-clause-looks g c = over_unsaid StandsForState _ _ _ _ (λ k m. ap (allowance k m) c.in-Update.is)

pub returns-in-Delete-clause-looks : goal.returns-in-Delete-clause-looks
returns-in-Delete-clause-looks g c = over_unsaid StandsForState _ _ _ _ (λ k m. ap (allowance k m) c.in-Delete.is)

pub returns-in_err-fixed_reply-in-Commit-clause-looks : goal.returns-in_err-fixed_reply-in-Commit-clause-looks
returns-in_err-fixed_reply-in-Commit-clause-looks g c = over_unsaid StandsForState _ _ _ _ (λ k m. ap (allowance k m) c.in-Commit.is)

pub returns-in_ok-fixed_reply-in-Commit-clause-looks : goal.returns-in_ok-fixed_reply-in-Commit-clause-looks
returns-in_ok-fixed_reply-in-Commit-clause-looks g c = over_unsaid StandsForState _ _ _ _ (λ k m. ap (allowance k m) c.in-Commit.is)
