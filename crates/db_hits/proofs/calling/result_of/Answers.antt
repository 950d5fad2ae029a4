use Rattle.std.proofs.Common.{List, ℕ, Some, refl, ap, sym, ◌∙◌}
use Rattle.std.proofs.lemmas.Result.{IfOk-weaker}
use Rattle.ct_keep.specs.laws.Composing.{reads_hold}
use Rattle.ix_kinds.specs.Rows.{table_at}
use Rattle.db_cond.specs.Refused.{refusal_of}
use Rattle.db_state.specs.Effects.{reply_by}
use Rattle.db_find.specs.laws.Looking.{rises_behind, rises_still, rises_weaker}
use Rattle.db_hits.proofs.CallSteps.{asked_looks, asked_reply, described, is_asked, other_is, undescribed}
use Rattle.db_hits.proofs.calling.result_of.Goals as goal

pub returns-in_default-clause-reply : goal.returns-in_default-clause-reply
returns-in_default-clause-reply g c = λ m k x holds stands there kind table.
    let other = other_is x c.args.head.now _ kind c.is_other_kind-other.ensures in
    let effect = undescribed m x c.args.args.now _ _ _ (refusal_of c.arguments_fault.result) c.in_ok-descriptor.ensures c.in_default.is other c.are_texts-texts.ensures c.arguments_fault.ensures in
    c.in_ok-fault_line.ensures ∙ sym (ap reply_by effect)

pub returns-in-Some-parts_fault-clause-reply : goal.returns-in-Some-parts_fault-clause-reply
returns-in-Some-parts_fault-clause-reply g c = λ m k x holds stands there kind table.
    let columns = c.deref.ensures.value ∙ c.in_ok-columns.ensures.columns m k holds stands ∙ ap (λ (t : List ℕ). (table_at m.tables t).columns) table in
    let effect =
    described m x c.args.args.now _ _ c.as_slice-parts.result.now c.deref.result.now _ _ _ _ c.in_ok-descriptor.ensures c.in-Some.is c.as_slice-parts.ensures columns (other_is x c.args.head.now _ kind c.is_other_kind-other.ensures) c.are_texts-texts.ensures
    refl (c.in-Some-parts_fault.ensures.checks _) in
    c.in_ok-fault_line-2.ensures ∙ sym (ap reply_by effect)

pub returns-clause-reply : goal.returns-clause-reply
returns-clause-reply g c = λ m k x holds stands there kind table.
    let asked =
    is_asked m x c.args.args.now c.args.head.now _ _ c.as_slice-parts.result.now c.deref.result.now c.deref-2.result.now _ _ c.query_at.result.now kind table c.in_ok-descriptor.ensures c.in-Some.is c.as_slice-parts.ensures
    (c.deref.ensures.value ∙ c.in_ok-columns.ensures.columns m k holds stands) (c.deref-2.ensures.value ∙ sym c.deref.ensures.value) c.is_other_kind-other.ensures c.in_default-parts_fault.ensures.kind c.are_texts-texts.ensures c.query_at.ensures
    (c.in_default-parts_fault.ensures.checks _) in
    IfOk-weaker c.search.result _ _ (λ reply says. asked_reply asked reply.items says)
    (c.search.ensures.reply m k asked.context (reads_hold _ _ k c.in_ok-columns.ensures.reads holds) stands (there ∙ ap Some asked.is) asked.of_table asked.has)

-- ---- what is looked up

pub returns-in_err-descriptor-clause-at_most : goal.returns-in_err-descriptor-clause-at_most
returns-in_err-descriptor-clause-at_most g c = λ m k x holds stands there kind table. rises_still _ _

pub returns-in_err-fault_line-clause-at_most : goal.returns-in_err-fault_line-clause-at_most
returns-in_err-fault_line-clause-at_most g c = λ m k x holds stands there kind table. rises_still _ _

pub returns-in_default-clause-at_most : goal.returns-in_default-clause-at_most
returns-in_default-clause-at_most g c = λ m k x holds stands there kind table. rises_still _ _

pub returns-in_err-columns-clause-at_most : goal.returns-in_err-columns-clause-at_most
returns-in_err-columns-clause-at_most g c = λ m k x holds stands there kind table. rises_weaker _ _ _ c.columns_of.ensures.at_most

pub returns-in_err-fault_line-2-clause-at_most : goal.returns-in_err-fault_line-2-clause-at_most
returns-in_err-fault_line-2-clause-at_most g c = λ m k x holds stands there kind table. rises_weaker _ _ _ c.in_ok-columns.ensures.at_most

pub returns-in-Some-parts_fault-clause-at_most : goal.returns-in-Some-parts_fault-clause-at_most
returns-in-Some-parts_fault-clause-at_most g c = λ m k x holds stands there kind table. rises_weaker _ _ _ c.in_ok-columns.ensures.at_most

pub returns-clause-at_most : goal.returns-clause-at_most
returns-clause-at_most g c = λ m k x holds stands there kind table.
    let asked =
    is_asked m x c.args.args.now c.args.head.now _ _ c.as_slice-parts.result.now c.deref.result.now c.deref-2.result.now _ _ c.query_at.result.now kind table c.in_ok-descriptor.ensures c.in-Some.is c.as_slice-parts.ensures
    (c.deref.ensures.value ∙ c.in_ok-columns.ensures.columns m k holds stands) (c.deref-2.ensures.value ∙ sym c.deref.ensures.value) c.is_other_kind-other.ensures c.in_default-parts_fault.ensures.kind c.are_texts-texts.ensures c.query_at.ensures
    (c.in_default-parts_fault.ensures.checks _) in
    rises_behind _ _ _ _ c.in_ok-columns.ensures.at_most
    (asked_looks asked k c.args.index.now _ _ (c.search.ensures.at_most m k asked.context (reads_hold _ _ k c.in_ok-columns.ensures.reads holds) stands (there ∙ ap Some asked.is) asked.of_table asked.has))
