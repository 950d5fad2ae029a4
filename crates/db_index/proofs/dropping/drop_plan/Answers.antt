use Rattle.std.proofs.Common.{sym, subst, List, ℕ, Option}
use Rattle.ct_keep.specs.Content.{after}
use Rattle.ct_keep.specs.laws.Composing.{reads_hold}
use Rattle.db_state.specs.Entries.{Becomes}
use Rattle.db_state.specs.laws.Serving.{plan_does}
use Rattle.db_index.specs.Dropping.{with_index_dropped}
use Rattle.db_index.specs.laws.Dropped.{dropped_becomes}
use Rattle.db_index.proofs.DropChecks.{known_index}
use Rattle.db_index.proofs.dropping.drop_plan.Goals as goal

pub returns-clause-plan : goal.returns-clause-plan
returns-clause-plan g c = record {
  made = λ m k holds stands.
      let i = c.args.index.now in
      plan_does _ k (with_index_dropped m i) _ c.in_ok-batch.batch (known_index m i c.in_ok-there.there (c.in_ok-there.ensures.there m k holds stands) c.if-not-there.false)
      (subst (λ (b : List (List ℕ × Option (List ℕ))). Becomes (with_index_dropped m i) k (after b k)) (sym (c.in_ok-batch.ensures.changes k (reads_hold _ _ k c.in_ok-there.ensures.reads holds))) (dropped_becomes k m i stands));
}
