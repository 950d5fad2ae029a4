use Rattle.db_range.proofs.Steps.{range_covers, range_long}
use Rattle.db_range.proofs.ranges.range_of.Goals as goal

pub returns-clause-covers : goal.returns-clause-covers
returns-clause-covers c = range_covers c.args.columns.now c.args.conds.now c.args.names.now c.in_ok-range.range c.in_ok-range.ensures

pub returns-clause-long : goal.returns-clause-long
returns-clause-long c = range_long c.args.columns.now c.args.conds.now c.args.names.now c.in_ok-range.range c.in_ok-range.ensures
