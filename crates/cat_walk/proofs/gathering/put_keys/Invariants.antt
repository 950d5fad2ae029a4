use Rattle.std.proofs.Common.{◌≡◌, ℕ, List, None, Some, length}
use Rattle.ct_keep.specs.Content.{Content}
use Rattle.ct_keep.specs.KeeperViews.{ReadsKeeper}
use Rattle.q_tree.specs.Slots.{has_key}
use Rattle.cat_walk.specs.Gathering.{AddsPlaces}
use Rattle.cat_walk.specs.Looks.{LooksUpNoText}
use Rattle.cat_walk.proofs.gathering.put_keys.Given as goal

abbrev pub invariant-loop-rest : goal.invariant-loop-rest
invariant-loop-rest g l = record {
  reads : ReadsKeeper (g.K.Keeper.view l.fn.keeper) (g.K.Keeper.view l.keeper) None;
  spares : LooksUpNoText l.stem (g.K.Keeper.view l.fn.keeper) (g.K.Keeper.view l.keeper);
  adds : (m : Content) → (g.K.Keeper.view l.fn.keeper).content ≡ Some m → (new : List (List ℕ))
      → AddsPlaces m l.stem (λ word. has_key l.rest word) l.places.items new → AddsPlaces m l.stem (λ word. has_key l.keys word) l.fn.places.items new;
}

abbrev pub decreases-loop-rest : goal.decreases-loop-rest
decreases-loop-rest g l = length l.rest
