use Rattle.std.proofs.Common.{length, arith}
use Rattle.std.proofs.lemmas.Result.{err_from_is_err_and}
use Rattle.db_rows.specs.Texts.{left_of, shown_places}
use Rattle.db_rows.specs.laws.Texts.{rises_within}
use Rattle.db_select.specs.Hits.{rows_left}
use Rattle.db_select.proofs.HitSteps.{note_left}
use Rattle.db_select.proofs.hits.note_hit.Goals as goal

pub returns-in_err-read-clause-once : goal.returns-in_err-read-clause-once
returns-in_err-read-clause-once g c = λ places fewer among.
    rw (err_from_is_err_and c.from_residual.result c.from_residual.ensures.1).1
    (rises_within (length places) _ 0 0 _ _ (omega arith) (omega arith) (c.in_err-read.ensures.once places fewer among))

pub returns-in_err-push_met-clause-once : goal.returns-in_err-push_met-clause-once
returns-in_err-push_met-clause-once g c = λ places fewer among.
    rw (err_from_is_err_and c.from_residual-in_err-push_met.result c.from_residual-in_err-push_met.ensures.1).1
    (rises_within (length places) _ (left_of (shown_places c.args.shown.now) c.in_ok-read.read) 0 _ _ (omega arith) (omega arith) (c.in_ok-read.ensures.once places fewer among))

pub returns-clause-once : goal.returns-clause-once
returns-clause-once g c = λ places fewer among.
    note_left (length places) (left_of (shown_places c.args.shown.now) c.in_ok-read.read) (rows_left (shown_places c.args.shown.now) c.args.rows.now.items) _ _ _
    (c.in_ok-push_met.ensures.left (shown_places c.args.shown.now)) (c.in_ok-read.ensures.once places fewer among)
