-- The weight of a map after the changes of a batch, from what was found of the entries before.
use Rattle.std.specs.Prelude.{map}
use Rattle.std.proofs.Common.{◌≡◌, ℕ, List, Option, ap, ◌∙◌}
use Rattle.ct_keep.specs.Content.{Content, Change, after, weight}
use Rattle.pg_map.specs.Holding.{IsLayout}
use Rattle.pg_directory.specs.Trees.{StorePage, kind_of}
use Rattle.pg_directory.specs.declared.entries.EntryAt.{EntryAt}
use Rattle.pg_batch.specs.ByKey.{AreByKey, KeysRise}
use Rattle.pg_batch.specs.Places.{AreKeyPlaces}
use Rattle.pg_batch.specs.Weights.{old_weight, WeighsOld}

pub weighs_after : (pages : List StorePage) (m : Content) (batch ws : List Change) (os : List (Option EntryAt)) (total old now : ℕ) → AreByKey batch ws → AreKeyPlaces pages ws os → IsLayout (map kind_of pages) m → WeighsOld old pages os → total ≡ weight m
    → ((n : Content) → KeysRise ws → total ≡ weight n → old ≡ old_weight ws n → now ≡ weight (after ws n)) → now ≡ weight (after batch m)
weighs_after pages m batch ws os total old now by places layout weighs before is =
    is m by.rise before (weighs m ws layout places) ∙ ap weight (by.makes m)
