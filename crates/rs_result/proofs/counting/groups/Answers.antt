use Rattle.std.specs.Prelude.{map}
use Rattle.std.proofs.Common.{rules, ap}
use Rattle.std.specs.Ordering.{is_lt}
use Rattle.std.proofs.lemmas.List.Sorted.{answers_always, ranks_by}
use Rattle.rs_result.specs.Comparing.{ranked, value_cmp}
use Rattle.rs_result.specs.Counts.{column_values}
use Rattle.rs_result.specs.laws.Orders.{value_cmp_total}
use Rattle.rs_result.proofs.Counted.{groups_counted, groups_found}
use Rattle.rs_result.proofs.counting.groups.Goals as goal

pub returns-clause-exact : goal.returns-clause-exact
returns-clause-exact g c =
    let up = c.sort_unstable_by.ensures.sorted (λ x y. is_lt (value_cmp x.now y.now)) (ranks_by value_cmp_total (λ b. b.now)) (answers_always _ _ _ (λ f a r k h. ap is_lt (search rules))) in
    groups_found c.runs.result (column_values c.args.column (map ranked c.args.rows.now)) _ c.sort_unstable_by.new.self.items (search rules) c.sort_unstable_by.ensures.permutation up (search rules)

pub returns-clause-counts : goal.returns-clause-counts
returns-clause-counts g c = groups_counted c.runs.result (column_values c.args.column (map ranked c.args.rows.now)) (returns-clause-exact g c)
