use Rattle.std.proofs.Common.{ℤ, List, ℕ, ◌≡◌, true, ◌&&◌, None, length}
use Rattle.std.specs.List.{list_all}
use Rattle.ct_keep.specs.KeeperViews.{ReadsKeeper, Told}
use Rattle.q_tree.specs.Soundness.{is_slot}
use Rattle.cat_walk.specs.Places.{has_place}
use Rattle.cat_walk.specs.Looks.{LooksUpNoText}
use Rattle.cat_walk.specs.Walks.{has_rising_places, route_of}
use Rattle.cat_search.specs.Words.{all_taken, phrase_may}
use Rattle.cat_search.specs.Walking.{AreWordsOfRows, StopsSoFar}
use Rattle.cat_search.proofs.compiling.walk_of_phrase.Given as goal

abbrev pub invariant-slots : goal.invariant-slots
invariant-slots g l = record {
  sound : list_all is_slot l.rest ≡ true;
  reads : ReadsKeeper (g.K.Keeper.view l.fn.keeper) (g.K.Keeper.view l.keeper) None;
  spares : LooksUpNoText l.stem (g.K.Keeper.view l.fn.keeper) (g.K.Keeper.view l.keeper);
  rise : has_rising_places (route_of l.walk) ≡ true;
  walk : Told g.K.Keeper.view l.fn.keeper (λ m. (place_of : ℤ → List ℕ) (words : ℤ → List (List ℕ)) → AreWordsOfRows m l.stem place_of words
      → StopsSoFar (◌&&◌) (has_place m l.stem) place_of words (λ ws. all_taken ws l.rest) (λ ws. phrase_may ws l.phrase) (route_of l.walk));
}

abbrev pub decreases-slots : goal.decreases-slots
decreases-slots g l = length l.rest
