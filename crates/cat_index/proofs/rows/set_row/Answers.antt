use Rattle.std.proofs.Common.{rules, arith, ap, length}
use Rattle.cat_index.proofs.RowSteps.{next_set}
use Rattle.cat_index.proofs.rows.set_row.Goals as goal

pub each-preserved : goal.each-preserved
each-preserved c = record {
  changes =
      next_set c.args.index.now c.args.row.0 c.each.sub c.args.old.now.words c.args.new.now.words c.each.before.now c.each.after.now c.in-Some.values.now c.in-Some-split_first.new_values.now c.in-Some.earlier.now c.in-Some-split_first.later.now c.each.changes c.set_words.new.batch _
      c.in-Some.ensures.cases.0 c.in-Some-split_first.ensures.cases.0 (search rules) c.each.invariant.changes;
  few = omega (arith, c.each.invariant.few, ap length c.in-Some.ensures.cases.0);
}
