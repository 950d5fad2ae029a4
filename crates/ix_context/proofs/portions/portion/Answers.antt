use Rattle.std.proofs.Common.{pos, length, ap, arith}
use Rattle.std.proofs.lemmas.List.{length_push}
use Rattle.ct_keep.specs.laws.Composing.{reads_on, reads_hold}
use Rattle.ix_context.specs.Indexes.{target_text}
use Rattle.ix_context.proofs.PortionSteps.{texts_more}
use Rattle.ix_context.proofs.portions.portion.Goals as goal

pub loop-row-preserved : goal.loop-row-preserved
loop-row-preserved g c = record {
  reads = reads_on _ _ _ _ c.loop-row.invariant.reads c.in_ok-text.ensures.reads;
  count =
      let added = ap length c.in_ok-add_text.ensures in
      let more = length_push c.loop-row.texts.items c.in_ok-text.text in
      let count = c.loop-row.invariant.count in
      omega (arith, added, more, count);
  some = λ any. omega arith;
  texts = λ m ts holds told.
      texts_more (target_text ts c.args.target.now) c.args.rows.now c.loop-row.row-index (record { 0 = pos 0 }) c.loop-row.texts.items c.add_text.new.texts.items c.in_ok-text.text
      c.loop-row-test.true (c.loop-row.invariant.texts m ts holds told) (c.in_ok-text.ensures.text m ts (reads_hold _ _ m c.loop-row.invariant.reads holds) told) c.in_ok-add_text.ensures;
}
