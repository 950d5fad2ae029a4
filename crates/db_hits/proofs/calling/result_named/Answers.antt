use Rattle.std.proofs.Common.{List, ℕ, ap, subst, sym, ◌∙◌}
use Rattle.std.proofs.lemmas.Result.{IfOk-weaker}
use Rattle.ct_keep.specs.laws.Composing.{reads_hold}
use Rattle.db_cond.specs.Faults.{UnknownName, refusal_line}
use Rattle.db_state.specs.Effects.{reply_by}
use Rattle.db_find.specs.laws.Looking.{rises_behind, rises_weaker}
use Rattle.db_hits.specs.Giving.{HasHead}
use Rattle.db_hits.proofs.CallSteps.{index_looked, index_reply, no_index}
use Rattle.db_hits.proofs.calling.result_named.Goals as goal

pub returns-in_default-clause-reply : goal.returns-in_default-clause-reply
returns-in_default-clause-reply g c = λ m k holds stands.
    no_index m c.args.index.now c.args.args.now _ c.in_ok-fault_line.field-0.items (c.in_ok-head.ensures.head m k holds stands) c.in_default.is
    (c.in_ok-fault_line.ensures ∙ ap (λ (n : List ℕ). refusal_line (UnknownName n)) c.as_str.ensures.text)

pub returns-clause-reply : goal.returns-clause-reply
returns-clause-reply g c = λ m k holds stands.
    let has = subst (HasHead m c.args.index.now) c.in-Some.is (c.in_ok-head.ensures.head m k holds stands) in
    IfOk-weaker c.result_of.result _ _ (λ reply says. says ∙ sym (ap reply_by (index_reply m c.args.index.now c.args.args.now has.0 has.1.0)))
    (c.result_of.ensures.reply m k has.0 (reads_hold _ _ k c.in_ok-head.ensures.reads holds) stands has.1.0 has.1.1.0 has.1.1.1)

-- ---- what is looked up

pub returns-in_err-head-clause-at_most : goal.returns-in_err-head-clause-at_most
returns-in_err-head-clause-at_most g c = λ m k holds stands. rises_weaker _ _ _ c.head_of.ensures.at_most

pub returns-in_err-fault_line-clause-at_most : goal.returns-in_err-fault_line-clause-at_most
returns-in_err-fault_line-clause-at_most g c = λ m k holds stands. rises_weaker _ _ _ c.in_ok-head.ensures.at_most

pub returns-in_default-clause-at_most : goal.returns-in_default-clause-at_most
returns-in_default-clause-at_most g c = λ m k holds stands. rises_weaker _ _ _ c.in_ok-head.ensures.at_most

pub returns-clause-at_most : goal.returns-clause-at_most
returns-clause-at_most g c = λ m k holds stands.
    let has = subst (HasHead m c.args.index.now) c.in-Some.is (c.in_ok-head.ensures.head m k holds stands) in
    let behind = reads_hold _ _ k c.in_ok-head.ensures.reads holds in
    rises_behind _ _ _ _ c.in_ok-head.ensures.at_most
    (index_looked m c.args.index.now c.args.args.now k has.0 _ _ has.1.0 (c.result_of.ensures.at_most m k has.0 behind stands has.1.0 has.1.1.0 has.1.1.1))
