use Rattle.std.proofs.Common.{◌∙◌, arith}
use Rattle.std.proofs.lemmas.Result.{err_from_is_err_and}
use Rattle.ct_keep.specs.laws.Composing.{reads_none, reads_on, reads_hold}
use Rattle.db_rows.specs.Texts.{texts_left}
use Rattle.db_rows.specs.Values.{row_values}
use Rattle.db_rows.specs.laws.Texts.{leaves_still, leaves_then}
use Rattle.db_rows.proofs.LookSteps.{looks_begin, looks_more, looks_end}
use Rattle.db_rows.proofs.MeetSteps.{none_met, one_met, not_met, all_met, met_there}
use Rattle.db_rows.proofs.TextSteps.{cond_at}
use Rattle.db_rows.proofs.meeting.meets.Goals as goal

pub loop-cond-init : goal.loop-cond-init
loop-cond-init g c = record {
  reads = reads_none _ c.requires;
  looks = looks_begin _ _;
  once = λ places among. leaves_still (texts_left places c.args.read.now) (texts_left places c.args.read.now) _ (omega arith);
  met = λ m k holds stands own. none_met c.args.columns.now c.args.conds.now c.args.row.0 (row_values m.tables c.args.table.now c.args.row.0) c.args.read.now own;
}

pub loop-cond-preserved : goal.loop-cond-preserved
loop-cond-preserved g c = record {
  reads = reads_on _ _ _ _ c.loop-cond.invariant.reads c.in_ok-meets_one.ensures.reads;
  looks = looks_more c.args.columns.now c.args.conds.now c.loop-cond.cond-index c.cond-item.result c.loop-cond.read _ _ _ c.loop-cond.invariant.looks c.loop-cond-test.true c.cond-item.is c.in_ok-meets_one.ensures.at_most;
  once = λ places among.
      leaves_then _ _ _ _ _ _ (c.loop-cond.invariant.once places among)
      (c.in_ok-meets_one.ensures.once places (cond_at places c.args.columns.now c.args.conds.now c.loop-cond.cond-index c.cond-item.result c.loop-cond-test.true c.cond-item.is among));
  met = λ m k holds stands own.
      let columns = c.args.columns.now in
      let r = c.args.row.0 in
      let vs = row_values m.tables c.args.table.now r in
      let here = reads_hold _ _ k c.loop-cond.invariant.reads holds in
      let before = c.loop-cond.invariant.met m k holds stands own in
      one_met columns c.args.conds.now r vs c.loop-cond.cond-index c.loop-cond.read c.meets_one.new.read c.cond-item.result c.in_ok-meets_one.field-0 before c.loop-cond-test.true c.cond-item.is
      (c.in_ok-meets_one.ensures.met m k here stands before.own) c.if-not-branch.false
      (c.in_ok-meets_one.ensures.read m k here stands before.own);
}

pub returns-then-not-branch-clause-met : goal.returns-then-not-branch-clause-met
returns-then-not-branch-clause-met g c = λ m k x holds stands there same own.
    let columns = c.args.columns.now in
    let conds = c.args.conds.now in
    let r = c.args.row.0 in
    let vs = row_values m.tables c.args.table.now r in
    let here = reads_hold _ _ k c.loop-cond.invariant.reads holds in
    let before = c.loop-cond.invariant.met m k holds stands own in
    not_met columns conds r vs c.loop-cond.cond-index c.loop-cond.read c.cond-item.result c.in_ok-meets_one.field-0 before c.loop-cond-test.true c.cond-item.is
    (c.in_ok-meets_one.ensures.met m k here stands before.own) c.if-not-branch.true
    ∙ met_there m.tables c.args.table.now x stands.state.tables there columns same conds r

pub returns-clause-met : goal.returns-clause-met
returns-clause-met g c = λ m k x holds stands there same own.
    let columns = c.args.columns.now in
    let conds = c.args.conds.now in
    let r = c.args.row.0 in
    all_met columns conds r (row_values m.tables c.args.table.now r) c.loop-cond.cond-index c.loop-cond.read (c.loop-cond.invariant.met m k holds stands own) c.loop-cond-test.false
    ∙ met_there m.tables c.args.table.now x stands.state.tables there columns same conds r

-- ---- what was read

pub returns-then-not-branch-clause-read : goal.returns-then-not-branch-clause-read
returns-then-not-branch-clause-read g c = λ m k holds stands own.
    c.in_ok-meets_one.ensures.read m k (reads_hold _ _ k c.loop-cond.invariant.reads holds) stands (c.loop-cond.invariant.met m k holds stands own).own

pub returns-clause-read : goal.returns-clause-read
returns-clause-read g c = λ m k holds stands own. (c.loop-cond.invariant.met m k holds stands own).own

-- ---- the look-ups

pub returns-in_err-meets_one-clause-at_most : goal.returns-in_err-meets_one-clause-at_most
returns-in_err-meets_one-clause-at_most g c =
    looks_end c.args.columns.now c.args.conds.now _ _ _
    (looks_more c.args.columns.now c.args.conds.now c.loop-cond.cond-index c.cond-item.result c.loop-cond.read _ _ _ c.loop-cond.invariant.looks c.loop-cond-test.true c.cond-item.is c.meets_one.ensures.at_most)

pub returns-then-not-branch-clause-at_most : goal.returns-then-not-branch-clause-at_most
returns-then-not-branch-clause-at_most g c =
    looks_end c.args.columns.now c.args.conds.now _ _ _
    (looks_more c.args.columns.now c.args.conds.now c.loop-cond.cond-index c.cond-item.result c.loop-cond.read _ _ _ c.loop-cond.invariant.looks c.loop-cond-test.true c.cond-item.is c.in_ok-meets_one.ensures.at_most)

pub returns-clause-at_most : goal.returns-clause-at_most
returns-clause-at_most g c = looks_end c.args.columns.now c.args.conds.now _ _ _ c.loop-cond.invariant.looks

-- ---- each text once

pub returns-in_err-meets_one-clause-once : goal.returns-in_err-meets_one-clause-once
returns-in_err-meets_one-clause-once g c = λ places among.
    rw (err_from_is_err_and c.from_residual.result c.from_residual.ensures.1).1
    (leaves_then _ _ _ _ _ _ (c.loop-cond.invariant.once places among)
    (c.in_err-meets_one.ensures.once places (cond_at places c.args.columns.now c.args.conds.now c.loop-cond.cond-index c.cond-item.result c.loop-cond-test.true c.cond-item.is among)))

pub returns-then-not-branch-clause-once : goal.returns-then-not-branch-clause-once
returns-then-not-branch-clause-once g c = λ places among.
    leaves_then _ _ _ _ _ _ (c.loop-cond.invariant.once places among)
    (c.in_ok-meets_one.ensures.once places (cond_at places c.args.columns.now c.args.conds.now c.loop-cond.cond-index c.cond-item.result c.loop-cond-test.true c.cond-item.is among))

pub returns-clause-once : goal.returns-clause-once
returns-clause-once g c = c.loop-cond.invariant.once
