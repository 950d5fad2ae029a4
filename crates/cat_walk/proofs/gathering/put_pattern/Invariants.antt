use Rattle.std.proofs.Common.{◌≡◌, ◌≤◌, ◌++◌, ◌-◌, None, Some, length}
use Rattle.ct_keep.specs.Content.{Content}
use Rattle.ct_keep.specs.KeeperViews.{ReadsKeeper}
use Rattle.q_match.specs.Literals.{leading_literal}
use Rattle.cat_walk.specs.Looks.{LooksUpNoText}
use Rattle.cat_walk.specs.Scanned.{lengths_places, pattern_places}
use Rattle.cat_walk.proofs.gathering.put_pattern.Given as goal

abbrev pub invariant-loop-size : goal.invariant-loop-size
invariant-loop-size g l = record {
  reads : ReadsKeeper (g.K.Keeper.view l.fn.keeper) (g.K.Keeper.view l.keeper) None;
  spares : LooksUpNoText l.stem (g.K.Keeper.view l.fn.keeper) (g.K.Keeper.view l.keeper);
  long : length (leading_literal l.pattern) ≤ l.size;
  so_far : (m : Content) → (g.K.Keeper.view l.fn.keeper).content ≡ Some m → l.places.items ++ lengths_places m l.stem l.pattern (256 - l.size) l.size ≡ l.fn.places.items ++ pattern_places m l.stem l.pattern;
}

abbrev pub decreases-loop-size : goal.decreases-loop-size
decreases-loop-size g l = 256 - l.size
