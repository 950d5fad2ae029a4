use Rattle.db_hits.proofs.PrintLaws.{groups_printed}
use Rattle.db_hits.proofs.listing.push_groups.Goals as goal

pub returns : goal.returns
returns c =
    groups_printed c.args.names.now c.args.column.now c.index_in.result c.args.rows.now c.in_ok-counts.counts.items c.push_counts.result c.args.lines.now.items c.push_counts.new.lines.items
    c.index_in.ensures c.in_ok-counts.ensures.counts c.push_counts.ensures
