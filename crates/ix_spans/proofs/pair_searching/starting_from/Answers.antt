use Rattle.std.proofs.Common.{◌≤◌, rules, ltb, sym, subst, ◌∙◌}
use Rattle.std.proofs.lemmas.List.Sorted.{IsPartitionPoint-from_clause, IsPartitionedBy-ltb, IsNonDecreasingBy-drop}
use Rattle.ct_base.specs.declared.numbers.Pair.{Pair}
use Rattle.ix_spans.specs.InOrder.{StartsInOrder}
use Rattle.ix_spans.specs.Windows.{most_turned}
use Rattle.ix_spans.proofs.PairSearches.{starting_point, turned_drop}
use Rattle.ix_spans.proofs.pair_searching.starting_from.Goals as goal

pub returns-clause-these : goal.returns-clause-these
returns-clause-these c =
    let parted = IsPartitionedBy-ltb (λ (p : Pair). p.first) c.args.pairs.now c.args.from c.requires in
    let point = IsPartitionPoint-from_clause (λ (p : Pair). ltb p.first c.args.from) c.args.pairs.now c.partition_point-before.result c.partition_point-before.ensures.partitioned parted (λ a r q k. search rules) in
    c.behind.ensures ∙ starting_point c.args.pairs.now c.args.from c.partition_point-before.result c.partition_point-before.ensures.bound point

pub returns-clause-order : goal.returns-clause-order
returns-clause-order c = subst StartsInOrder (sym c.behind.ensures) (IsNonDecreasingBy-drop (λ (p : Pair). p.first) c.partition_point-before.result c.args.pairs.now c.requires)

pub returns-clause-turned : goal.returns-clause-turned
returns-clause-turned c = subst (λ ps. most_turned ps ≤ most_turned c.args.pairs.now) (sym c.behind.ensures) (turned_drop c.partition_point-before.result c.args.pairs.now)
