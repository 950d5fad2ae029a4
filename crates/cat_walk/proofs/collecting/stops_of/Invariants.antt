use Rattle.std.proofs.Common.{None}
use Rattle.ct_keep.specs.KeeperViews.{ReadsKeeper, Told}
use Rattle.cat_walk.specs.Looks.{LooksUpNoText}
use Rattle.cat_walk.specs.Places.{ArePlacesUpTo, has_place}
use Rattle.cat_walk.specs.Walks.{route_of, stops_at}
use Rattle.cat_walk.proofs.collecting.stops_of.Given as goal

abbrev pub invariant-steps : goal.invariant-steps
invariant-steps g l = record {
  reads : ReadsKeeper (g.K.Keeper.view l.fn.keeper) (g.K.Keeper.view l.keeper) None;
  spares : LooksUpNoText l.stem (g.K.Keeper.view l.fn.keeper) (g.K.Keeper.view l.keeper);
  stops : Told g.K.Keeper.view l.fn.keeper (λ m. ArePlacesUpTo (stops_at (has_place m l.stem) (route_of l.walk)) l.last.items l.places.items);
}
