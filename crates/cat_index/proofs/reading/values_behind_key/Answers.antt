use Rattle.std.proofs.Common.{List, length, sym, ap, subst, arith}
use Rattle.ct_base.specs.declared.lists.Value.{Value}
use Rattle.ct_keep.specs.laws.Composing.{reads_none, reads_on, reads_hold}
use Rattle.cat_index.proofs.ReadSteps.{IsReadTo, all_read, before_within, longer, none_read, place_is_small, read_on, read_stops, row_there}
use Rattle.cat_index.proofs.reading.values_behind_key.Goals as goal

pub each-init : goal.each-init
each-init g c = record {
  reads = reads_none _ c.requires;
  counted = omega arith;
  before = omega arith;
  read = λ m ts x vs holds only stand are here columns there numbers.
      subst (λ (l : List Value). IsReadTo vs l c.args.columns.now c.args.numbers.now 0) (sym c.new-values.ensures.items)
      (none_read x c.args.columns.now c.args.row.0 vs c.args.numbers.now (are.each c.args.table.now x here) columns there numbers);
}

pub each-preserved : goal.each-preserved
each-preserved g c = record {
  reads = reads_on _ _ _ _ c.each.invariant.reads c.in_ok-found.ensures.reads;
  counted =
      let more = longer c.each.values.items c.add_value.new.values.items c.in-Some-found.value c.in_ok-add_value.ensures in
      let cut = ap length c.in-Some.ensures.cases.0 in
      omega (arith, c.each.invariant.counted, more, cut);
  before =
      let more = longer c.each.values.items c.add_value.new.values.items c.in-Some-found.value c.in_ok-add_value.ensures in
      let within = before_within c.in-Some.column.now.sort c.each.before (length c.each.values.items) c.each.invariant.before in
      omega (arith, within, more, c.before_next-before.ensures);
  read = λ m ts x vs holds only stand are here columns there numbers.
      let read = c.each.invariant.read m ts x vs holds only stand are here columns there numbers in
      let small = place_is_small vs c.each.values.items c.each.rest.now c.in-Some.column.now c.in-Some.later.now c.args.numbers.now c.each.before c.in-Some.ensures.cases.0 read in
      read_on vs c.each.values.items c.each.rest.now c.in-Some.column.now c.in-Some.later.now c.args.numbers.now c.each.before _ c.in_ok-found.found _ c.in-Some.ensures.cases.0 read c.in-Some-found.value c.add_value.new.values.items _
      (c.in_ok-found.ensures.value m ts (reads_hold _ _ m c.each.invariant.reads holds) only stand are (omega (arith, small))) (omega arith) (row_there ts c.args.table.now x c.args.row.0 vs here there) c.in-Some-found.is c.in_ok-add_value.ensures c.before_next-before.ensures;
}

pub returns-in_default-found-clause-values : goal.returns-in_default-found-clause-values
returns-in_default-found-clause-values g c = λ m ts holds only stand are x vs here columns there numbers.
    let read = c.each.invariant.read m ts x vs holds only stand are here columns there numbers in
    let small = place_is_small vs c.each.values.items c.each.rest.now c.in-Some.column.now c.in-Some.later.now c.args.numbers.now c.each.before c.in-Some.ensures.cases.0 read in
    absurd (read_stops vs c.each.values.items c.each.rest.now c.in-Some.column.now c.in-Some.later.now c.args.numbers.now c.each.before _ c.in_ok-found.found _ c.in-Some.ensures.cases.0 read
    (c.in_ok-found.ensures.value m ts (reads_hold _ _ m c.each.invariant.reads holds) only stand are (omega (arith, small))) (omega arith) (row_there ts c.args.table.now x c.args.row.0 vs here there) c.in_default-found.is)

pub returns-clause-values : goal.returns-clause-values
returns-clause-values g c = λ m ts holds only stand are x vs here columns there numbers.
    all_read vs c.each.values.items c.each.rest.now c.args.numbers.now c.each.before (omega (arith, c.in_default.ensures.cases)) (c.each.invariant.read m ts x vs holds only stand are here columns there numbers)
