use Rattle.std.proofs.Common.{rules, ◌∙◌, leb}
use Rattle.std.proofs.lemmas.List.Sorted.{IsPartitionPoint-from_clause, IsPartitionedBy-leb}
use Rattle.ix_spans.proofs.RisingSearches.{in_order, to_point}
use Rattle.ix_spans.proofs.searching.up_to.Goals as goal

pub returns : goal.returns
returns c =
    let parted = IsPartitionedBy-leb (λ n. n) c.args.numbers.now c.args.most (λ i j d b w. in_order c.args.numbers.now i j d c.requires b w) in
    let point = IsPartitionPoint-from_clause (λ n. leb n c.args.most) c.args.numbers.now c.partition_point-within.result c.partition_point-within.ensures.partitioned parted (λ a r q k. search rules) in
    c.front.ensures ∙ to_point c.args.numbers.now c.args.most c.partition_point-within.result c.partition_point-within.ensures.bound point
