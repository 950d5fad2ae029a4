use Rattle.std.proofs.Common.{◌≡◌, ◌++◌, Some, None, drop}
use Rattle.ct_keep.specs.Content.{Content}
use Rattle.ct_keep.specs.KeeperViews.{ReadsKeeper}
use Rattle.ct_entry.specs.Changes.{spell}
use Rattle.ct_entry.specs.Removals.{OnlyRemoves}
use Rattle.ix_indexes.specs.Removing.{kind_removals}
use Rattle.ix_indexes.proofs.removing.remove_kinds.Given as goal

abbrev pub invariant-loop-kind : goal.invariant-loop-kind
invariant-loop-kind g l = record {
  reads : ReadsKeeper (g.K.Keeper.view l.fn.keeper) (g.K.Keeper.view l.keeper) None;
  removes : OnlyRemoves l.fn.changes l.changes;
  changes : (m : Content) → (g.K.Keeper.view l.fn.keeper).content ≡ Some m
      → l.changes ++ spell (kind_removals l.index m (drop l.kind-index l.kinds)) ≡ l.fn.changes ++ spell (kind_removals l.index m l.kinds);
}
