use Rattle.std.proofs.Common.{sym, ap, ◌∙◌, List, None}
use Rattle.std.proofs.lemmas.Bool.{false≢true}
use Rattle.std.proofs.lemmas.Result.{IfOk-weaker}
use Rattle.ct_keep.specs.KeeperViews.{fault_of}
use Rattle.st_parse.specs.declared.procedures.Procedure.{Procedure}
use Rattle.st_parse.specs.declared.procedures.Procedure.TheVariants.{PolicyTokens, SyncIndex, OptimizeIndex, ResultSet, Define, Thesaurus}
use Rattle.st_parse.specs.declared.statements.Arg.{Arg}
use Rattle.db_state.specs.Effects.{reply_by}
use Rattle.db_looks.specs.laws.Composing.{over_as, over_unsaid}
use Rattle.db_state.specs.States.{StandsForState}
use Rattle.db_state.specs.laws.Serving.{serves_as, serves_look}
use Rattle.db_hits.specs.Calling.{result_set}
use Rattle.db_hits.specs.Looking.{result_allowance}
use Rattle.db_hits.specs.laws.Allowing.{result_within}
use Rattle.db_hits.specs.laws.Keeping.{result_only_looks}
use Rattle.db_engine.specs.Steps.{call}
use Rattle.db_engine.specs.Executing.{call_line, is_fixed_call}
use Rattle.db_engine.specs.Looking.{call_allowance}
use Rattle.db_engine.proofs.executing.call.Goals as goal

-- ---- the tokens of a text

pub returns-in-PolicyTokens-clause-serves : goal.returns-in-PolicyTokens-clause-serves
returns-in-PolicyTokens-clause-serves g c =
    serves_as _ _ None _ _ _ c.policy_tokens.result (λ m. ap (λ (p : Procedure). call m p c.args.args.now) c.in-PolicyTokens.is ∙ ap (call m PolicyTokens) (sym c.as_slice.ensures)) (ap call_line c.in-PolicyTokens.is) c.policy_tokens.ensures.serves

pub returns-in-PolicyTokens-clause-fixed : goal.returns-in-PolicyTokens-clause-fixed
returns-in-PolicyTokens-clause-fixed g c = λ m fixed.
    IfOk-weaker c.policy_tokens.result _ _ (λ reply says. says ∙ ap (λ (args : List Arg). reply_by (call m PolicyTokens args)) c.as_slice.ensures ∙ sym (ap (λ (p : Procedure). reply_by (call m p c.args.args.now)) c.in-PolicyTokens.is))
    (c.policy_tokens.ensures.fixed m (ap (is_fixed_call PolicyTokens) c.as_slice.ensures ∙ (sym (ap (λ (p : Procedure). is_fixed_call p c.args.args.now) c.in-PolicyTokens.is) ∙ fixed)))

pub returns-in-PolicyTokens-clause-may : goal.returns-in-PolicyTokens-clause-may
returns-in-PolicyTokens-clause-may g c = λ full. absurd (c.policy_tokens.ensures.reads.not_full (ap fault_of full))

-- ---- a synchronisation

pub returns-in-SyncIndex-clause-serves : goal.returns-in-SyncIndex-clause-serves
returns-in-SyncIndex-clause-serves g c =
    serves_as _ _ _ _ _ _ c.sync_index.result (λ m. ap (λ (p : Procedure). call m p c.args.args.now) c.in-SyncIndex.is ∙ ap (call m SyncIndex) (sym c.as_slice-in-SyncIndex.ensures)) (ap call_line c.in-SyncIndex.is) c.sync_index.ensures

pub returns-in-SyncIndex-clause-fixed : goal.returns-in-SyncIndex-clause-fixed
returns-in-SyncIndex-clause-fixed g c = λ m fixed. absurd (false≢true (sym (ap (λ (p : Procedure). is_fixed_call p c.args.args.now) c.in-SyncIndex.is) ∙ fixed))

-- ---- an optimisation

pub returns-in-OptimizeIndex-clause-serves : goal.returns-in-OptimizeIndex-clause-serves
returns-in-OptimizeIndex-clause-serves g c =
    serves_as _ _ _ _ _ _ c.optimize_index.result (λ m. ap (λ (p : Procedure). call m p c.args.args.now) c.in-OptimizeIndex.is ∙ ap (call m OptimizeIndex) (sym c.as_slice-in-OptimizeIndex.ensures)) (ap call_line c.in-OptimizeIndex.is)
    c.optimize_index.ensures

pub returns-in-OptimizeIndex-clause-fixed : goal.returns-in-OptimizeIndex-clause-fixed
returns-in-OptimizeIndex-clause-fixed g c = λ m fixed. absurd (false≢true (sym (ap (λ (p : Procedure). is_fixed_call p c.args.args.now) c.in-OptimizeIndex.is) ∙ fixed))

-- ---- a result set

pub returns-in-ResultSet-clause-serves : goal.returns-in-ResultSet-clause-serves
returns-in-ResultSet-clause-serves g c =
    let args : List Arg = c.as_slice-in-ResultSet.result.now in
    serves_as (λ m. result_set m args) _ None _ _ _ c.result_set.result (λ m. ap (λ (p : Procedure). call m p c.args.args.now) c.in-ResultSet.is ∙ ap (call m ResultSet) (sym c.as_slice-in-ResultSet.ensures)) (ap call_line c.in-ResultSet.is)
    (serves_look _ _ _ _ c.result_set.ensures.reads c.result_set.ensures.reply (λ m. result_only_looks m args))

pub returns-in-ResultSet-clause-fixed : goal.returns-in-ResultSet-clause-fixed
returns-in-ResultSet-clause-fixed g c = λ m fixed. absurd (false≢true (sym (ap (λ (p : Procedure). is_fixed_call p c.args.args.now) c.in-ResultSet.is) ∙ fixed))

pub returns-in-ResultSet-clause-may : goal.returns-in-ResultSet-clause-may
returns-in-ResultSet-clause-may g c = λ full. absurd (c.result_set.ensures.reads.not_full (ap fault_of full))

pub returns-in-ResultSet-clause-looks : goal.returns-in-ResultSet-clause-looks
returns-in-ResultSet-clause-looks g c =
    let args : List Arg = c.as_slice-in-ResultSet.result.now in
    over_as StandsForState (λ k m. result_allowance k m args) _ _ _ _
    (λ k m. ap (λ (p : Procedure). call_allowance k m p c.args.args.now) c.in-ResultSet.is ∙ ap (result_allowance k m) (sym c.as_slice-in-ResultSet.ensures))
    (result_within g.K.Keeper.view c.args.keeper.now c.result_set.new.keeper args (fault_of c.result_set.result) c.looking_law.ensures c.result_set.ensures.reads c.result_set.ensures.at_most)

-- ---- a definition

pub returns-in-Define-clause-serves : goal.returns-in-Define-clause-serves
returns-in-Define-clause-serves g c =
    serves_as _ _ _ _ _ _ c.define.result (λ m. ap (λ (p : Procedure). call m p c.args.args.now) c.in-Define.is ∙ ap (call m (Define c.in-Define.definition)) (sym c.as_slice-in-Define.ensures)) (ap call_line c.in-Define.is) c.define.ensures

pub returns-in-Define-clause-fixed : goal.returns-in-Define-clause-fixed
returns-in-Define-clause-fixed g c = λ m fixed. absurd (false≢true (sym (ap (λ (p : Procedure). is_fixed_call p c.args.args.now) c.in-Define.is) ∙ fixed))

-- ---- a thesaurus

pub returns-in-Thesaurus-clause-serves : goal.returns-in-Thesaurus-clause-serves
returns-in-Thesaurus-clause-serves g c =
    serves_as _ _ _ _ _ _ c.call_thesaurus.result (λ m. ap (λ (p : Procedure). call m p c.args.args.now) c.in-Thesaurus.is ∙ ap (call m (Thesaurus c.in-Thesaurus.procedure)) (sym c.as_slice-in-Thesaurus.ensures)) (ap call_line c.in-Thesaurus.is) c.call_thesaurus.ensures

pub returns-in-Thesaurus-clause-fixed : goal.returns-in-Thesaurus-clause-fixed
returns-in-Thesaurus-clause-fixed g c = λ m fixed. absurd (false≢true (sym (ap (λ (p : Procedure). is_fixed_call p c.args.args.now) c.in-Thesaurus.is) ∙ fixed))

-- ---- what the others look up, of which nothing is said

pub returns-in-PolicyTokens-clause-looks : goal.returns-in-PolicyTokens-clause-looks
returns-in-PolicyTokens-clause-looks g c = over_unsaid StandsForState _ _ _ _ (λ k m. ap (λ (p : Procedure). call_allowance k m p c.args.args.now) c.in-PolicyTokens.is)

pub returns-in-SyncIndex-clause-looks : goal.returns-in-SyncIndex-clause-looks
returns-in-SyncIndex-clause-looks g c = over_unsaid StandsForState _ _ _ _ (λ k m. ap (λ (p : Procedure). call_allowance k m p c.args.args.now) c.in-SyncIndex.is)

pub returns-in-OptimizeIndex-clause-looks : goal.returns-in-OptimizeIndex-clause-looks
returns-in-OptimizeIndex-clause-looks g c = over_unsaid StandsForState _ _ _ _ (λ k m. ap (λ (p : Procedure). call_allowance k m p c.args.args.now) c.in-OptimizeIndex.is)

pub returns-in-Define-clause-looks : goal.returns-in-Define-clause-looks
returns-in-Define-clause-looks g c = over_unsaid StandsForState _ _ _ _ (λ k m. ap (λ (p : Procedure). call_allowance k m p c.args.args.now) c.in-Define.is)

pub returns-in-Thesaurus-clause-looks : goal.returns-in-Thesaurus-clause-looks
returns-in-Thesaurus-clause-looks g c = over_unsaid StandsForState _ _ _ _ (λ k m. ap (λ (p : Procedure). call_allowance k m p c.args.args.now) c.in-Thesaurus.is)
