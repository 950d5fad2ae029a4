use Rattle.std.proofs.Common.{sym, subst, List, ℕ, Option}
use Rattle.ct_keep.specs.Content.{after}
use Rattle.ct_keep.specs.laws.Composing.{reads_hold}
use Rattle.db_state.specs.Entries.{Becomes}
use Rattle.db_state.specs.laws.Serving.{plan_does}
use Rattle.db_change.specs.Dropping.{with_table_dropped}
use Rattle.db_change.specs.laws.GoneTables.{dropped_becomes}
use Rattle.db_change.proofs.DropSteps.{known_table}
use Rattle.db_change.proofs.dropping.drop_plan.Goals as goal

pub returns-clause-plan : goal.returns-clause-plan
returns-clause-plan g c = record {
  made = λ m k holds stands.
      let t = c.args.table.now in
      let drops = c.in_ok-batch.ensures.changes m k (reads_hold _ _ k c.in_ok-there.ensures.reads holds) stands in
      plan_does _ k (with_table_dropped m t) _ c.in_ok-batch.batch (known_table m t c.in_ok-there.there (c.in_ok-there.ensures.there m k holds stands) c.if-not-there.false)
      (subst (λ (b : List (List ℕ × Option (List ℕ))). Becomes (with_table_dropped m t) k (after b k)) (sym drops.is) (dropped_becomes k m t drops.names drops.are stands));
}
