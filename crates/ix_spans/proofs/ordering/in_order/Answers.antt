use Rattle.std.proofs.Common.{rules}
use Rattle.std.proofs.lemmas.List.Sorted.{IsNonDecreasingBy-from_sort_by_key}
use Rattle.ct_base.specs.declared.numbers.Pair.{Pair}
use Rattle.ix_spans.proofs.Sorting.{same_by_permutation}
use Rattle.ix_spans.proofs.ordering.in_order.Goals as goal

pub returns-clause-order : goal.returns-clause-order
returns-clause-order c = IsNonDecreasingBy-from_sort_by_key (λ (p : Pair). p.first) c.sort_by_key.new.self.items c.in_ok-sort_by_key.ensures.sorted (λ a r q k. search rules)

pub returns-clause-same : goal.returns-clause-same
returns-clause-same c = same_by_permutation c.args.pairs.items c.sort_by_key.new.self.items c.sort_by_key.ensures.permutation
