use Rattle.std.proofs.Common.{rules, arith}
use Rattle.rs_result.proofs.Counted.{value_on, no_value_on}
use Rattle.rs_result.proofs.counting.column_values.Goals as goal

pub loop-row-preserved-in_ok-push : goal.loop-row-preserved-in_ok-push
loop-row-preserved-in_ok-push g c = record {
  so_far =
      value_on c.loop-row.values.items c.push.new.self.items c.in-Some-nth_value.value c.args.column c.loop-row.rest.now c.in-Some.others.now c.in-Some.row.now _
      (search rules) (search rules) (search rules) c.loop-row.invariant.so_far;
  few = search (rules, arith);
}

pub loop-row-preserved : goal.loop-row-preserved
loop-row-preserved g c = record {
  so_far = no_value_on c.loop-row.values.items c.args.column c.loop-row.rest.now c.in-Some.others.now c.in-Some.row.now _ (search rules) (search rules) c.loop-row.invariant.so_far;
  few = search (rules, arith);
}
