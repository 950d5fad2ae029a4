use Rattle.std.proofs.Common.{◌≡◌, ◌+◌, [], ap, arith}
use Rattle.std.proofs.lemmas.Grind.{common_steps}
use Rattle.std.proofs.lemmas.Result.{err_from_is_err_and}
use Rattle.ct_keep.specs.laws.Composing.{reads_none, reads_on, reads_hold}
use Rattle.db_rows.specs.laws.Texts.{leaves_still, rises_given, rises_within}
use Rattle.db_select.specs.Hits.{rows_left}
use Rattle.db_select.specs.Ranking.{ranked_left}
use Rattle.db_select.proofs.OrderSteps.{all_ranked, none_left, none_ranked, one_left, one_ranked}
use Rattle.db_select.proofs.ordering.rows_with_values.Goals as goal

pub loop-row-init : goal.loop-row-init
loop-row-init g c = record {
  reads = reads_none _ c.requires;
  rows = λ m k holds stands.
      none_ranked m.tables c.args.table.now c.args.sources.now c.args.rows.items c.into_iter-row-iterator.result.rest.items c.new-ranked.result.items
      c.into_iter-row-iterator.ensures.into_iter_gives.0 c.new-ranked.ensures.items;
  within = λ places among.
      let whole = ap (rows_left places) c.into_iter-row-iterator.ensures.into_iter_gives.0 in
      let none : ranked_left places c.new-ranked.result.items ≡ 0 = ap (ranked_left places) c.new-ranked.ensures.items in
      leaves_still (rows_left places c.args.rows.items) (ranked_left places c.new-ranked.result.items + rows_left places c.into_iter-row-iterator.result.rest.items) _ (omega (arith, whole, none));
}

pub loop-row-preserved : goal.loop-row-preserved
loop-row-preserved g c = record {
  reads = reads_on _ _ _ _ c.loop-row.invariant.reads c.in_ok-valued.ensures.reads;
  rows = λ m k holds stands.
      one_ranked m.tables c.args.table.now c.args.sources.now c.args.rows.items c.loop-row.row-iterator.rest.items c.next.new.self.rest.items c.in-Some.row c.loop-row.ranked.items c.push_ranked.new.rows.items c.in_ok-valued.valued
      (c.loop-row.invariant.rows m k holds stands) c.in-Some.ensures.steps.0
      (c.in_ok-valued.ensures.row m k (reads_hold _ _ k c.loop-row.invariant.reads holds) stands) c.in_ok-push_ranked.ensures;
  within = λ places among.
      one_left places _ c.loop-row.row-iterator.rest.items c.next.new.self.rest.items c.in-Some.row c.loop-row.ranked.items c.push_ranked.new.rows.items c.in_ok-valued.valued _ _ _
      c.in-Some.ensures.steps.0 c.in_ok-push_ranked.ensures (c.loop-row.invariant.within places among) (c.in_ok-valued.ensures.within places among);
}

pub returns-clause-rows : goal.returns-clause-rows
returns-clause-rows g c = λ m k holds stands.
    let none : c.loop-row.row-iterator.rest.items ≡ [] = grind (arith, common_steps, c.in-None.ensures) in
    all_ranked m.tables c.args.table.now c.args.sources.now c.args.rows.items c.loop-row.row-iterator.rest.items c.loop-row.ranked.items (c.loop-row.invariant.rows m k holds stands) none

pub returns-in_err-valued-clause-within : goal.returns-in_err-valued-clause-within
returns-in_err-valued-clause-within g c = λ places among.
    rw (err_from_is_err_and c.from_residual.result c.from_residual.ensures.1).1
    (none_left places _ c.loop-row.row-iterator.rest.items c.next.new.self.rest.items c.in-Some.row (ranked_left places c.loop-row.ranked.items) _ _ _
    c.in-Some.ensures.steps.0 (c.loop-row.invariant.within places among) (c.in_err-valued.ensures.within places among))

pub returns-in_err-push_ranked-clause-within : goal.returns-in_err-push_ranked-clause-within
returns-in_err-push_ranked-clause-within g c = λ places among.
    rw (err_from_is_err_and c.from_residual-in_err-push_ranked.result c.from_residual-in_err-push_ranked.ensures.1).1
    (none_left places _ c.loop-row.row-iterator.rest.items c.next.new.self.rest.items c.in-Some.row (ranked_left places c.loop-row.ranked.items) _ _ _
    c.in-Some.ensures.steps.0 (c.loop-row.invariant.within places among) (rises_given _ _ _ _ (c.in_ok-valued.ensures.within places among)))

pub returns-clause-within : goal.returns-clause-within
returns-clause-within g c = λ places among.
    rises_within (rows_left places c.args.rows.items) _ (ranked_left places c.loop-row.ranked.items + rows_left places c.loop-row.row-iterator.rest.items) (ranked_left places c.loop-row.ranked.items) _ _
    (omega arith) (omega arith) (c.loop-row.invariant.within places among)
