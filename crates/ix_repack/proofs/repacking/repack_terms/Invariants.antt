use Rattle.std.proofs.Common.{◌≡◌, ◌-◌, Some, None}
use Rattle.ct_keep.specs.Content.{Content}
use Rattle.ct_keep.specs.KeeperViews.{ReadsKeeper}
use Rattle.ct_entry.specs.Keys.{HasKeysOnly}
use Rattle.ix_repack.specs.Terms.{IsTermOrStart}
use Rattle.ix_repack.specs.Putting.{IsIndexRow, AddsPuts}
use Rattle.ix_repack.specs.Repacking.{IndexRows, HasIndexRows}
use Rattle.ix_repack.proofs.WalkSteps.{LeftOf}
use Rattle.ix_repack.proofs.repacking.repack_terms.Given as goal

abbrev pub invariant-terms : goal.invariant-terms
invariant-terms g l = record {
  reads : ReadsKeeper (g.K.Keeper.view l.fn.keeper) (g.K.Keeper.view l.keeper) None;
  left : (m : Content) → (g.K.Keeper.view l.fn.keeper).content ≡ Some m → HasKeysOnly m → IsTermOrStart l.fn.place → (rows : IndexRows) → HasIndexRows m l.index rows
      → LeftOf m l.mapped l.index rows l.fn.batch l.fn.place l.most l.batch l.last (l.most - l.counter);
  puts : AddsPuts (IsIndexRow l.index) l.fn.batch l.batch;
  proper : IsTermOrStart l.fn.place → IsTermOrStart l.last;
}
