use Rattle.std.proofs.Common.{rules, arith, ap, length}
use Rattle.cat_index.specs.Changes.{words_change}
use Rattle.cat_index.proofs.RowSteps.{next_in_each}
use Rattle.cat_index.proofs.rows.change_row.Goals as goal

pub each-preserved : goal.each-preserved
each-preserved c = record {
  changes =
      next_in_each (λ sub v. words_change c.args.index.now c.args.row.0 sub c.args.filing.now.words c.args.there v) c.each.sub c.each.rest.now c.in-Some.values.now c.in-Some.later.now c.each.changes c.change_words.new.batch _
      c.in-Some.ensures.cases.0 (search rules) c.each.invariant.changes;
  few = omega (arith, c.each.invariant.few, ap length c.in-Some.ensures.cases.0);
}
