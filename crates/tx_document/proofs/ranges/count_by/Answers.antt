use Rattle.std.proofs.Common.{rules}
use Rattle.std.proofs.lemmas.List.Sorted.{IsPartitionPoint-from_clause, IsPartitionedBy-leb}
use Rattle.tx_lexer.specs.declared.tokens.Token.{Token}
use Rattle.tx_document.specs.Ranges.{ends_by}
use Rattle.tx_document.proofs.TokenRanges.{splits_at}
use Rattle.tx_document.proofs.ranges.count_by.Goals as goal

pub returns-clause-splits : goal.returns-clause-splits
returns-clause-splits c =
    let parted = IsPartitionedBy-leb (λ (t : Token). t.end) c.args.tokens.now c.args.place c.requires.ends in
    let point = IsPartitionPoint-from_clause (ends_by c.args.place) _ _ c.partition_point.ensures.partitioned parted (λ a r q k. search rules) in
    splits_at (ends_by c.args.place) c.args.tokens.now c.partition_point.result c.partition_point.ensures.bound point
