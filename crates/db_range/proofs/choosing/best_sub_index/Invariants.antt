use Rattle.std.proofs.Common.{length}
use Rattle.db_range.specs.Ranges.{IsSubRange}
use Rattle.db_range.proofs.BestSteps.{AreLeft}
use Rattle.db_range.proofs.choosing.best_sub_index.Given as goal

abbrev pub invariant-each : goal.invariant-each
invariant-each l = record {
  best : IsSubRange l.columns l.conds l.subs l.best;
  left : AreLeft l.subs l.sub l.rest;
}

abbrev pub decreases-each : goal.decreases-each
decreases-each l = length l.rest
