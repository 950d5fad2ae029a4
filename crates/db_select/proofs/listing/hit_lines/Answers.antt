use Rattle.std.proofs.Common.{◌≡◌, ℕ, [], eqb, length, vec_len, sym, ap, ◌∙◌, arith}
use Rattle.std.proofs.lemmas.Grind.{common_steps}
use Rattle.ct_keep.specs.laws.Composing.{reads_none, reads_on, reads_hold}
use Rattle.db_rows.specs.laws.Texts.{rises_end, rises_on, leaves_still}
use Rattle.db_select.specs.Hits.{rows_left}
use Rattle.db_select.proofs.HitSteps.{first_left}
use Rattle.db_select.proofs.LineSteps.{all_written, none_written, one_written}
use Rattle.db_select.proofs.listing.hit_lines.Goals as goal

pub loop-row-init : goal.loop-row-init
loop-row-init g c = record {
  reads = reads_none _ c.requires;
  lines = λ m k holds stands own.
      none_written m.tables c.args.table.now c.args.sources.now c.args.rows.items c.into_iter-row-iterator.result.rest.items c.new-lines.result.items
      c.into_iter-row-iterator.ensures.into_iter_gives.0 c.new-lines.ensures.items own;
  looks = λ places among.
      let whole = ap (rows_left places) c.into_iter-row-iterator.ensures.into_iter_gives.0 in
      leaves_still (rows_left places c.args.rows.items) (rows_left places c.into_iter-row-iterator.result.rest.items) _ (omega (arith, whole));
}

pub loop-row-preserved : goal.loop-row-preserved
loop-row-preserved g c = record {
  reads = reads_on _ _ _ _ c.loop-row.invariant.reads c.in_ok-push_row.ensures.reads;
  lines = λ m k holds stands own.
      one_written m.tables c.args.table.now c.args.sources.now c.args.rows.items c.loop-row.row-iterator.rest.items c.next.new.self.rest.items c.in-Some.row c.loop-row.lines.items c.push_row.new.lines.items
      (c.loop-row.invariant.lines m k holds stands own) c.in-Some.ensures.steps.0
      (c.in_ok-push_row.ensures.line m k (reads_hold _ _ k c.loop-row.invariant.reads holds) stands);
  looks = λ places among.
      rises_on _ _ _ _ _ _ _ (first_left places c.loop-row.row-iterator.rest.items c.next.new.self.rest.items c.in-Some.row c.in-Some.ensures.steps.0)
      (c.loop-row.invariant.looks places among) (c.in_ok-push_row.ensures.at_most places among);
}

pub returns-clause-lines : goal.returns-clause-lines
returns-clause-lines g c = λ m k holds stands own.
    let none : c.loop-row.row-iterator.rest.items ≡ [] = grind (arith, common_steps, c.in-None.ensures) in
    let count : length c.args.rows.items ≡ vec_len c.args.rows = omega arith in
    all_written m.tables c.args.table.now c.args.sources.now c.args.rows.items c.loop-row.row-iterator.rest.items c.loop-row.lines.items (c.loop-row.invariant.lines m k holds stands own) none
    (ap (λ (n : ℕ). eqb n 0) count ∙ sym c.is_empty.ensures ∙ c.if-is_empty.false)

pub returns-in_err-push_row-clause-at_most : goal.returns-in_err-push_row-clause-at_most
returns-in_err-push_row-clause-at_most g c = λ places among.
    rises_end _ _ _ _
    (rises_on _ _ _ _ _ _ _ (first_left places c.loop-row.row-iterator.rest.items c.next.new.self.rest.items c.in-Some.row c.in-Some.ensures.steps.0)
    (c.loop-row.invariant.looks places among) (c.push_row.ensures.at_most places among))

pub returns-clause-at_most : goal.returns-clause-at_most
returns-clause-at_most g c = λ places among. rises_end _ _ _ _ (c.loop-row.invariant.looks places among)
