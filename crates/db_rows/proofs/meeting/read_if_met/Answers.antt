use Rattle.std.proofs.Common.{sym, ◌∙◌, arith}
use Rattle.std.proofs.lemmas.Result.{err_from_is_err_and}
use Rattle.db_rows.specs.Texts.{shown_places, texts_left}
use Rattle.db_rows.specs.Values.{row_values}
use Rattle.db_rows.specs.laws.Texts.{left_within, rises_within}
use Rattle.db_rows.proofs.meeting.read_if_met.Goals as goal

pub returns-then-not-branch-clause-met : goal.returns-then-not-branch-clause-met
returns-then-not-branch-clause-met g c = λ m k x holds stands there same.
    sym c.if-not-branch.true ∙ c.in_ok-meets.ensures.met m k x holds stands there same (c.nothing-read.ensures (row_values m.tables c.args.table.now c.args.row.0))

pub returns-clause-met : goal.returns-clause-met
returns-clause-met g c = λ m k x holds stands there same.
    sym c.if-not-branch.false ∙ c.in_ok-meets.ensures.met m k x holds stands there same (c.nothing-read.ensures (row_values m.tables c.args.table.now c.args.row.0))

pub returns-clause-own : goal.returns-clause-own
returns-clause-own g c = λ m k holds stands.
    let vs = row_values m.tables c.args.table.now c.args.row.0 in
    c.in_ok-kept.ensures.own vs (c.in_ok-meets.ensures.read m k holds stands (c.nothing-read.ensures vs))

-- ---- each text once

pub returns-in_err-meets-clause-once : goal.returns-in_err-meets-clause-once
returns-in_err-meets-clause-once g c = λ places fewer among.
    rw (err_from_is_err_and c.from_residual.result c.from_residual.ensures.1).1 (rises_within _ _ _ 0 _ _ (left_within places c.nothing-read.result) (omega arith) (c.in_err-meets.ensures.once places among))

pub returns-then-not-branch-clause-once : goal.returns-then-not-branch-clause-once
returns-then-not-branch-clause-once g c = λ places fewer among.
    rises_within _ _ _ 0 _ _ (left_within places c.nothing-read.result) (omega arith) (c.in_ok-meets.ensures.once places among)

pub returns-in_err-kept-clause-once : goal.returns-in_err-kept-clause-once
returns-in_err-kept-clause-once g c = λ places fewer among.
    rw (err_from_is_err_and c.from_residual-in_err-kept.result c.from_residual-in_err-kept.ensures.1).1 (rises_within _ _ _ 0 _ _ (left_within places c.nothing-read.result) (omega arith) (c.in_ok-meets.ensures.once places among))

pub returns-clause-once : goal.returns-clause-once
returns-clause-once g c = λ places fewer among.
    let left = c.in_ok-kept.ensures.left in
    let few = fewer c.meets.new.read in
    rises_within (texts_left places c.nothing-read.result) _ (texts_left places c.meets.new.read) (texts_left (shown_places c.args.shown.now) c.in_ok-kept.kept) _ _ (left_within places c.nothing-read.result) (omega (arith, left, few)) (c.in_ok-meets.ensures.once places among)
