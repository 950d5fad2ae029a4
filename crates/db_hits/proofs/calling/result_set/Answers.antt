use Rattle.std.proofs.lemmas.Result.{IfOk-weaker}
use Rattle.db_cond.specs.Refused.{refusal_of}
use Rattle.db_find.specs.laws.Looking.{rises_still}
use Rattle.db_hits.proofs.CallSteps.{name_looked, name_reply, no_name_reply}
use Rattle.db_hits.proofs.calling.result_set.Goals as goal

pub returns-in_default-clause-reply : goal.returns-in_default-clause-reply
returns-in_default-clause-reply g c = λ m k holds stands.
    no_name_reply m c.args.args.now _ c.in_ok-fault_line.field-0.items c.are_texts.result (refusal_of c.arguments_fault.result) c.in_ok-index.ensures c.in_default.is c.are_texts.ensures c.arguments_fault.ensures c.in_ok-fault_line.ensures

pub returns-clause-reply : goal.returns-clause-reply
returns-clause-reply g c = λ m k holds stands.
    IfOk-weaker c.result_named.result _ _ (λ reply says. name_reply m c.args.args.now _ c.in-Some.index reply.items c.in_ok-index.ensures c.in-Some.is says) (c.result_named.ensures.reply m k holds stands)

-- ---- what is looked up

pub returns-in_err-index-clause-at_most : goal.returns-in_err-index-clause-at_most
returns-in_err-index-clause-at_most g c = λ m k holds stands. rises_still _ _

pub returns-in_err-fault_line-clause-at_most : goal.returns-in_err-fault_line-clause-at_most
returns-in_err-fault_line-clause-at_most g c = λ m k holds stands. rises_still _ _

pub returns-in_default-clause-at_most : goal.returns-in_default-clause-at_most
returns-in_default-clause-at_most g c = λ m k holds stands. rises_still _ _

pub returns-clause-at_most : goal.returns-clause-at_most
returns-clause-at_most g c = λ m k holds stands. name_looked m c.args.args.now k _ c.in-Some.index _ _ c.in_ok-index.ensures c.in-Some.is (c.result_named.ensures.at_most m k holds stands)
