use Rattle.std.proofs.Common.{◌≡◌, ◌++◌, Some, None, drop, map}
use Rattle.ct_keep.specs.Content.{Content}
use Rattle.ct_keep.specs.KeeperViews.{ReadsKeeper}
use Rattle.ct_entry.specs.Changes.{spell}
use Rattle.ct_entry.specs.Removals.{OnlyRemoves}
use Rattle.db_change.proofs.dropping.remove_indexes.Given as goal
use Rattle.ix_indexes.specs.Removing.{remove_all_changes}

abbrev pub invariant-loop-index : goal.invariant-loop-index
invariant-loop-index g l = record {
  reads : ReadsKeeper (g.K.Keeper.view l.fn.keeper) (g.K.Keeper.view l.keeper) None;
  removes : OnlyRemoves l.fn.batch l.batch;
  changes : (m : Content) → (g.K.Keeper.view l.fn.keeper).content ≡ Some m
      → l.batch ++ spell (remove_all_changes m (map (λ e. e.0) (drop l.index-index l.indexes))) ≡ l.fn.batch ++ spell (remove_all_changes m (map (λ e. e.0) l.indexes));
}
