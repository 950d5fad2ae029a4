-- What a batch asks for, on the pages of a store.
use Rattle.std.specs.Prelude.{◌≡◌, ℕ, List, map}
use Rattle.ct_keep.specs.Content.{Content, Change, after, weight}
use Rattle.ct_keep.specs.KeeperViews.{KeepsLimit}
use Rattle.ct_keep.specs.SeenChanges.{change_of}
use Rattle.pg_directory.specs.Trees.{StorePage}
use Rattle.pg_batch.specs.declared.asking.Asked.{Asked}
use Rattle.pg_batch.specs.Places.{AreKeyPlaces}

-- The places are those of the entries of its keys, and the weight is that of the map that it makes, which is within the limit or no heavier
-- than the one before.
pub record IsAsked (pages : List StorePage) (m : Content) (batch : List Change) (limit : ℕ) (asked : Asked) : Type 0 where
  pub places : AreKeyPlaces pages (map change_of asked.changes.items) asked.places.items
  pub total : asked.total ≡ weight (after batch m)
  pub within : KeepsLimit limit m (after batch m)
