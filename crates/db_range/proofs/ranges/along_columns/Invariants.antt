use Rattle.std.proofs.Common.{length}
use Rattle.db_range.proofs.Steps.{IsBegun}
use Rattle.db_range.proofs.ranges.along_columns.Given as goal

abbrev pub invariant-each : goal.invariant-each
invariant-each l = IsBegun l.columns l.conds l.names l.rest l.low.items l.high.items

abbrev pub decreases-each : goal.decreases-each
decreases-each l = length l.rest
