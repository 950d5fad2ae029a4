use Rattle.std.proofs.Common.{◌+◌, ◌*◌, max, None}
use Rattle.ct_keep.specs.KeeperViews.{ReadsKeeper, Told}
use Rattle.cat_walk.specs.Looks.{LooksUpNoText}
use Rattle.cat_walk.specs.Places.{has_place}
use Rattle.cat_walk.specs.Walks.{Both, Without, route_of, stops_at}
use Rattle.cat_walk.proofs.Steps.{HoldsNowhere}
use Rattle.cat_walk.proofs.walks.Walk.TheLaws.{the_size}
use Rattle.cat_walk.proofs.stepping.+next.Given as goal

abbrev pub decreases-next_place : goal.decreases-next_place
decreases-next_place g l = 2 * the_size l.walk.now

abbrev pub decreases-next_of_both : goal.decreases-next_of_both
decreases-next_of_both g l = 2 * max (the_size l.a.now) (the_size l.b.now) + 1

abbrev pub decreases-next_without : goal.decreases-next_without
decreases-next_without g l = 2 * the_size l.a.now + 1

abbrev pub invariant-next_of_both-steps : goal.invariant-next_of_both-steps
invariant-next_of_both-steps g l = record {
  reads : ReadsKeeper (g.K.Keeper.view l.fn.keeper) (g.K.Keeper.view l.keeper) None;
  spares : LooksUpNoText l.stem (g.K.Keeper.view l.fn.keeper) (g.K.Keeper.view l.keeper);
  nowhere : Told g.K.Keeper.view l.fn.keeper (λ m. HoldsNowhere (stops_at (has_place m l.stem) (Both (route_of l.a) (route_of l.b))) l.after l.last.items);
}

abbrev pub invariant-next_without-steps : goal.invariant-next_without-steps
invariant-next_without-steps g l = record {
  reads : ReadsKeeper (g.K.Keeper.view l.fn.keeper) (g.K.Keeper.view l.keeper) None;
  spares : LooksUpNoText l.stem (g.K.Keeper.view l.fn.keeper) (g.K.Keeper.view l.keeper);
  nowhere : Told g.K.Keeper.view l.fn.keeper (λ m. HoldsNowhere (stops_at (has_place m l.stem) (Without (route_of l.a) (route_of l.b))) l.after l.last.items);
}
