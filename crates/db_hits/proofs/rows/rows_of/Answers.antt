use Rattle.std.proofs.Common.{ap, length, arith}
use Rattle.std.specs.Prelude.{pos, map}
use Rattle.ct_keep.specs.laws.Composing.{reads_none, reads_on, reads_hold}
use Rattle.db_find.specs.laws.Looking.{rises_still}
use Rattle.rs_result.specs.Comparing.{ranked}
use Rattle.db_hits.specs.Rows.{rank_read}
use Rattle.db_hits.proofs.ValueSteps.{all_rows, one_row, rises_few, rises_one}
use Rattle.db_hits.proofs.rows.rows_of.Goals as goal

pub loop-hit-init : goal.loop-hit-init
loop-hit-init g c = record {
  reads = reads_none _ c.requires;
  rows = λ m k holds stands. ap (map ranked) c.new-rows.ensures.items;
  within = λ places among. rises_still _ _;
}

pub loop-hit-preserved : goal.loop-hit-preserved
loop-hit-preserved g c = record {
  reads = reads_on _ _ _ _ c.loop-hit.invariant.reads c.in_ok-row.ensures.reads;
  rows = λ m k holds stands.
      one_row (rank_read m.tables c.args.table.now c.args.sources.now) c.args.hits.now c.loop-hit.hit-index c.loop-hit.rows.items c.push_row.new.rows.items c.in_ok-row.row
      (record { key = record { 0 = pos 0 }; score = 0 }) (c.loop-hit.invariant.rows m k holds stands) c.loop-hit-test.true
      (c.in_ok-row.ensures.row m k (reads_hold _ _ k c.loop-hit.invariant.reads holds) stands) c.in_ok-push_row.ensures;
  within = λ places among. rises_one c.loop-hit.hit-index (length places) _ _ _ (c.loop-hit.invariant.within places among) (c.in_ok-row.ensures.within places among);
}

pub returns-clause-rows : goal.returns-clause-rows
returns-clause-rows g c = λ m k holds stands.
    all_rows (rank_read m.tables c.args.table.now c.args.sources.now) c.args.hits.now c.loop-hit.hit-index c.loop-hit.rows.items (c.loop-hit.invariant.rows m k holds stands) c.loop-hit-test.false

-- ---- each text once

pub returns-in_err-row-clause-within : goal.returns-in_err-row-clause-within
returns-in_err-row-clause-within g c = λ places among.
    rises_few _ (length c.args.hits.now) (length places) _ _ (omega (arith, c.loop-hit-test.true))
    (rises_one c.loop-hit.hit-index (length places) _ _ _ (c.loop-hit.invariant.within places among) (c.in_err-row.ensures.within places among))

pub returns-in_err-push_row-clause-within : goal.returns-in_err-push_row-clause-within
returns-in_err-push_row-clause-within g c = λ places among.
    rises_few _ (length c.args.hits.now) (length places) _ _ (omega (arith, c.loop-hit-test.true))
    (rises_one c.loop-hit.hit-index (length places) _ _ _ (c.loop-hit.invariant.within places among) (c.in_ok-row.ensures.within places among))

pub returns-clause-within : goal.returns-clause-within
returns-clause-within g c = λ places among. rises_few c.loop-hit.hit-index (length c.args.hits.now) (length places) _ _ (omega arith) (c.loop-hit.invariant.within places among)
