use Rattle.std.proofs.Common.{rules, ◌∙◌, ltb}
use Rattle.std.proofs.lemmas.List.Sorted.{IsPartitionPoint-from_clause, IsPartitionedBy-ltb}
use Rattle.ix_spans.proofs.RisingSearches.{in_order, from_point}
use Rattle.ix_spans.proofs.searching.from_on.Goals as goal

pub returns : goal.returns
returns c =
    let parted = IsPartitionedBy-ltb (λ n. n) c.args.numbers.now c.args.least (λ i j d b w. in_order c.args.numbers.now i j d c.requires b w) in
    let point = IsPartitionPoint-from_clause (λ n. ltb n c.args.least) c.args.numbers.now c.partition_point-below.result c.partition_point-below.ensures.partitioned parted (λ a r q k. search rules) in
    c.behind.ensures ∙ from_point c.args.numbers.now c.args.least c.partition_point-below.result c.partition_point-below.ensures.bound point
