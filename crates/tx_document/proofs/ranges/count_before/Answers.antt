use Rattle.std.proofs.Common.{rules}
use Rattle.std.proofs.lemmas.List.Sorted.{IsPartitionPoint-from_clause, IsPartitionedBy-ltb}
use Rattle.tx_lexer.specs.declared.tokens.Token.{Token}
use Rattle.tx_document.specs.Ranges.{starts_before}
use Rattle.tx_document.proofs.TokenRanges.{splits_at}
use Rattle.tx_document.proofs.ranges.count_before.Goals as goal

pub returns : goal.returns
returns c =
    let parted = IsPartitionedBy-ltb (λ (t : Token). t.start) c.args.tokens.now c.args.place c.requires.starts in
    let point = IsPartitionPoint-from_clause (starts_before c.args.place) _ _ c.partition_point.ensures.partitioned parted (λ a r q k. search rules) in
    splits_at (starts_before c.args.place) c.args.tokens.now c.partition_point.result c.partition_point.ensures.bound point
