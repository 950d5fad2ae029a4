use Rattle.ct_keep.specs.laws.Composing.{reads_on, reads_hold}
use Rattle.q_reduce.specs.Results.{named_pairs}
use Rattle.rule_index.specs.Changes.{settle_changes}
use Rattle.rule_index.specs.Sees.{outcome_in}
use Rattle.rule_index.proofs.AddSteps.{next_added}
use Rattle.rule_index.proofs.syncing.settle_rows.Goals as goal

pub each-preserved : goal.each-preserved
each-preserved g c = record {
  reads = reads_on _ _ _ _ c.each.invariant.reads c.in_ok-settle_row.ensures.reads;
  changes = λ m ts holds told.
      next_added (settle_changes c.args.index.now (outcome_in (named_pairs c.args.thesauri.now) ts c.args.target.now c.args.prefs.now)) c.in-Some.row.now c.each.rest.now c.in-Some.later.now c.each.changes c.settle_row.new.changes _
      c.in-Some.ensures.cases.0 (c.in_ok-settle_row.ensures.changes m ts (reads_hold _ _ m c.each.invariant.reads holds) told) (c.each.invariant.changes m ts holds told);
  shaped = λ shaped. c.in_ok-settle_row.ensures.shaped (c.each.invariant.shaped shaped);
}
