use Rattle.std.proofs.Common.{◌≡◌, true, Some, None, map}
use Rattle.ct_keep.specs.Content.{Content, begins_with}
use Rattle.ct_keep.specs.KeeperViews.{ReadsKeeper}
use Rattle.ct_keep.proofs.Scanning.{Scanning}
use Rattle.ct_keep.proofs.scans.scan.Given as goal

abbrev pub invariant-steps : goal.invariant-steps
invariant-steps g l = record {
  reads : ReadsKeeper (g.K.Keeper.view l.fn.keeper) (g.K.Keeper.view l.keeper) None;
  begins : begins_with l.prefix l.last.items ≡ true;
  told : (m : Content) → (g.K.Keeper.view l.fn.keeper).content ≡ Some m → Scanning l.prefix l.last.items m (map (λ e. (e.0.items, e.1.items)) l.found.items) (g.K.Keeper.view l.fn.keeper).counts (g.K.Keeper.view l.keeper).counts;
}
