use Rattle.db_select.proofs.HitSteps.{unsearched_are, unsearched_own}
use Rattle.db_select.proofs.hits.unsearched_hits.Goals as goal

pub returns-clause-hits : goal.returns-clause-hits
returns-clause-hits g c = λ m k x holds stands there same.
    unsearched_are m c.args.table.now x c.args.conds.now c.in_ok-rows.rows.items c.in_ok-found.found.items (c.in_ok-rows.ensures.keys m k x holds stands there same) c.in_ok-found.ensures

pub returns-clause-own : goal.returns-clause-own
returns-clause-own g c = λ m k holds stands.
    unsearched_own m.tables c.args.table.now c.in_ok-rows.rows.items c.in_ok-found.found.items c.in_ok-found.ensures (c.in_ok-rows.ensures.own m k holds stands)
