use Rattle.std.proofs.Common.{List, ℕ, ◌≡◌, true, Some, None, length}
use Rattle.std.specs.List.{list_all, list_any}
use Rattle.ct_keep.specs.Content.{Content}
use Rattle.ct_keep.specs.KeeperViews.{ReadsKeeper}
use Rattle.q_tree.specs.Soundness.{is_phrase}
use Rattle.cat_walk.specs.Looks.{LooksUpNoText}
use Rattle.cat_search.specs.Words.{phrase_may}
use Rattle.cat_search.specs.Walking.{GathersRows}
use Rattle.cat_search.proofs.compiling.put_phrases.Given as goal

abbrev pub invariant-phrases : goal.invariant-phrases
invariant-phrases g l = record {
  sound : list_all is_phrase l.rest ≡ true;
  reads : ReadsKeeper (g.K.Keeper.view l.fn.keeper) (g.K.Keeper.view l.keeper) None;
  spares : LooksUpNoText l.stem (g.K.Keeper.view l.fn.keeper) (g.K.Keeper.view l.keeper);
  adds : (m : Content) → (g.K.Keeper.view l.fn.keeper).content ≡ Some m → (new : List (List ℕ))
      → GathersRows m l.stem (λ ws. list_any (phrase_may ws) l.rest) l.places.items new → GathersRows m l.stem (λ ws. list_any (phrase_may ws) l.phrases) l.fn.places.items new;
}

abbrev pub decreases-phrases : goal.decreases-phrases
decreases-phrases g l = length l.rest
