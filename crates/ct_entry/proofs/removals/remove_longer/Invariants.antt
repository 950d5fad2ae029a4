use Rattle.std.proofs.Common.{◌≡◌, Some, None}
use Rattle.ct_keep.specs.Content.{Content}
use Rattle.ct_keep.specs.KeeperViews.{ReadsKeeper}
use Rattle.ct_entry.specs.Removals.{OnlyRemoves}
use Rattle.ct_entry.proofs.RemovalSteps.{Removing}
use Rattle.ct_entry.proofs.removals.remove_longer.Given as goal

abbrev pub invariant-entries : goal.invariant-entries
invariant-entries g l = record {
  reads : ReadsKeeper (g.K.Keeper.view l.fn.keeper) (g.K.Keeper.view l.keeper) None;
  removes : OnlyRemoves l.fn.batch l.batch;
  told : (m : Content) → (g.K.Keeper.view l.fn.keeper).content ≡ Some m → Removing l.kind l.owner l.after.items m l.fn.batch l.batch (g.K.Keeper.view l.fn.keeper).counts (g.K.Keeper.view l.keeper).counts;
}
