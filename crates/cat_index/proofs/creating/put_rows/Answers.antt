use Rattle.std.proofs.Common.{subst}
use Rattle.ct_keep.specs.laws.Composing.{reads_on, reads_hold}
use Rattle.ix_kinds.specs.Rows.{table_at}
use Rattle.cat_index.specs.Kind.{as_index}
use Rattle.cat_index.specs.Sees.{AreThere}
use Rattle.cat_index.proofs.CreateSteps.{next_row, table_there}
use Rattle.cat_index.proofs.creating.put_rows.Goals as goal

pub each-preserved : goal.each-preserved
each-preserved g c = record {
  reads = reads_on _ _ _ _ c.each.invariant.reads c.in_ok-put_row.ensures.reads;
  changes = λ m ts holds only stand are columns there.
      let t = table_at ts c.args.catalogue.now.target.table in
      let before = c.each.invariant.changes m ts holds only stand are columns there in
      let here = subst (AreThere t) c.in-Some.ensures.cases.0 before.0 in (
        here.1,
        next_row c.args.index.now (as_index c.args.columns.now c.args.catalogue.now) t c.in-Some.row.now c.in-Some.later.now c.each.changes c.put_row.new.changes _ c.each.rest.now c.in-Some.ensures.cases.0 here.0
            (λ vs is. c.in_ok-put_row.ensures.changes m ts (reads_hold _ _ m c.each.invariant.reads holds) only stand are t vs (table_there ts c.args.catalogue.now.target.table c.in-Some.row.now.0 here.0) columns is)
            before.1,
      );
  shaped = λ shaped. c.in_ok-put_row.ensures.shaped (c.each.invariant.shaped shaped);
}
