use Rattle.ct_keep.proofs.WellChanges.{holds_done}
use Rattle.ct_keep.proofs.holdings.Holding.commit.Goals as goal

pub invariant_of-self : goal.invariant_of-self
invariant_of-self c = record {
  entries = holds_done c.commit-done.result _ _ _ c.args.batch c.args.self.now.entries c.requires c.into_changes.ensures c.commit-done.ensures.ok c.commit-done.ensures.err;
}
