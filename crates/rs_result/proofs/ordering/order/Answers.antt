use Rattle.std.proofs.Common.{rules, ap, is_lt}
use Rattle.std.proofs.lemmas.Fn.{always_returns_same}
use Rattle.std.proofs.lemmas.List.Sorted.{ranks_by}
use Rattle.rs_result.specs.Comparing.{rank_cmp, ranked}
use Rattle.rs_result.specs.laws.Orders.{rank_cmp_total, row_cmp_total, rows_apart}
use Rattle.rs_result.specs.laws.Sorting.{one_order}
use Rattle.rs_result.proofs.ordering.order.Goals as goal

pub returns-clause-order : goal.returns-clause-order
returns-clause-order g c =
    c.sort_unstable_by.ensures.sorted
    (λ x y. is_lt (rank_cmp c.args.by.now (ranked x) (ranked y)))
    (ranks_by (rank_cmp_total c.args.by.now) ranked)
    (always_returns_same _ _ _ (λ a r k q. (ap is_lt (search rules), search rules)))

pub returns-clause-sorted : goal.returns-clause-sorted
returns-clause-sorted g c own =
    one_order _ (row_cmp_total c.args.by.now) _ (rows_apart c.args.by.now _ own) _ c.sort_unstable_by.ensures.permutation (returns-clause-order g c)
