use Rattle.std.proofs.Common.{◌+◌, ◌*◌, ap, sym, subst, arith, length, drop}
use Rattle.std.specs.Prelude.{pos}
use Rattle.std.proofs.lemmas.Result.{err_from_is_err_and}
use Rattle.ct_keep.specs.laws.Composing.{reads_none, reads_on, reads_hold}
use Rattle.db_rows.specs.Meeting.{key_meets}
use Rattle.db_rows.specs.Texts.{shown_places}
use Rattle.db_rows.specs.laws.Texts.{rises_given, rises_within}
use Rattle.db_select.specs.Hits.{HoldOwn, hits_of, rows_left}
use Rattle.db_select.proofs.HitSteps.{AreMet, all_met, fewer_behind, none_met, none_tried, one_met, one_tried}
use Rattle.db_select.proofs.hits.met_hits.Goals as goal

pub loop-hit-init : goal.loop-hit-init
loop-hit-init g c = record {
  reads = reads_none _ c.requires;
  met = λ m k x holds stands there same.
      subst (AreMet (λ h. key_meets x c.args.conds.now h.key.0) c.args.found.now 0) (sym (ap hits_of c.new-rows.ensures.items)) (none_met (λ h. key_meets x c.args.conds.now h.key.0) c.args.found.now);
  own = λ m k holds stands. subst (HoldOwn m.tables c.args.table.now) (sym c.new-rows.ensures.items) tt;
  once = λ places fewer among. none_tried (length places) (length c.args.found.now) _ c.new-rows.result.items (shown_places c.args.shown.now) c.new-rows.ensures.items;
}

pub loop-hit-preserved : goal.loop-hit-preserved
loop-hit-preserved g c = record {
  reads = reads_on _ _ _ _ c.loop-hit.invariant.reads c.in_ok-note_hit.ensures.reads;
  met = λ m k x holds stands there same.
      one_met (λ h. key_meets x c.args.conds.now h.key.0) c.args.found.now c.loop-hit.hit-index (hits_of c.loop-hit.rows.items) (hits_of c.note_hit.new.rows.items) (record { key = record { 0 = pos 0 }; score = 0 })
      (c.loop-hit.invariant.met m k x holds stands there same) c.loop-hit-test.true
      (c.in_ok-note_hit.ensures.hits m k x (reads_hold _ _ k c.loop-hit.invariant.reads holds) stands there same);
  own = λ m k holds stands. c.in_ok-note_hit.ensures.own m k (reads_hold _ _ k c.loop-hit.invariant.reads holds) stands (c.loop-hit.invariant.own m k holds stands);
  once = λ places fewer among.
      one_tried _ _ _ (length places) _ _ _ _ _ (fewer_behind c.args.found.now c.loop-hit.hit-index (record { key = record { 0 = pos 0 }; score = 0 }) c.loop-hit-test.true)
      (c.loop-hit.invariant.once places fewer among) (c.in_ok-note_hit.ensures.once places fewer among);
}

pub returns-clause-hits : goal.returns-clause-hits
returns-clause-hits g c = λ m k x holds stands there same.
    all_met (λ h. key_meets x c.args.conds.now h.key.0) c.args.found.now c.loop-hit.hit-index (hits_of c.loop-hit.rows.items) (c.loop-hit.invariant.met m k x holds stands there same) c.loop-hit-test.false

pub returns-clause-own : goal.returns-clause-own
returns-clause-own g c = c.loop-hit.invariant.own

pub returns-in_err-note_hit-clause-once : goal.returns-in_err-note_hit-clause-once
returns-in_err-note_hit-clause-once g c = λ places fewer among.
    rw (err_from_is_err_and c.from_residual.result c.from_residual.ensures.1).1
    (rises_given _ _ _ _
    (one_tried _ _ 0 (length places) _ _ _ _ _ (fewer_behind c.args.found.now c.loop-hit.hit-index (record { key = record { 0 = pos 0 }; score = 0 }) c.loop-hit-test.true)
    (c.loop-hit.invariant.once places fewer among) (c.in_err-note_hit.ensures.once places fewer among)))

pub returns-clause-once : goal.returns-clause-once
returns-clause-once g c = λ places fewer among.
    rises_within (length c.args.found.now * length places) _ (rows_left (shown_places c.args.shown.now) c.loop-hit.rows.items + length (drop c.loop-hit.hit-index c.args.found.now) * length places) _ _ _
    (omega arith) (omega arith) (c.loop-hit.invariant.once places fewer among)
