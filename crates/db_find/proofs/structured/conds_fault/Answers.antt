use Rattle.db_find.specs.Structured.{cond_refusal}
use Rattle.db_find.proofs.Refusals.{passed_next, refused_next}
use Rattle.db_find.proofs.structured.conds_fault.Goals as goal

pub returns-in-Some : goal.returns-in-Some
returns-in-Some c =
    refused_next (cond_refusal c.args.columns.now c.args.subs.now) c.args.conds.now c.loop-cond.cond-index c.cond-item.result c.loop-cond-test.true c.cond-item.is
    c.cond_fault.result c.in-Some.fault c.in-Some.is c.cond_fault.ensures c.loop-cond.invariant

pub loop-cond-preserved : goal.loop-cond-preserved
loop-cond-preserved c =
    passed_next (cond_refusal c.args.columns.now c.args.subs.now) c.args.conds.now c.loop-cond.cond-index c.cond-item.result c.loop-cond-test.true c.cond-item.is
    c.cond_fault.result c.in_default.is c.cond_fault.ensures c.loop-cond.invariant
