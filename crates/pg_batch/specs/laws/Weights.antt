-- What a content weighs after changes whose keys rise.
use Rattle.std.specs.Prelude.{◌≡◌, ℕ, ◌+◌, ◌-◌, List, [], ◌∷◌, Option, refl}
use Rattle.std.proofs.Common.{ap, arith}
use Rattle.ct_keep.specs.Content.{Content, Change, set_to, after, weight, value_weight, changes_weight}
use Rattle.ct_keep.specs.laws.Content.{weight-set_to}
use Rattle.pg_batch.specs.ByKey.{KeysRise}
use Rattle.pg_batch.specs.Weights.{old_weight}
use Rattle.pg_batch.specs.laws.Rising.{IsBelowKeys, first_of_all, below_later, get_behind}

-- the change of a lesser key leaves what the entries of the others weigh
old_behind : (key : List ℕ) (o : Option (List ℕ)) (m : Content) (ws : List Change) → IsBelowKeys key ws → old_weight ws (set_to key o m) ≡ old_weight ws m
old_behind key o m [] first = refl
old_behind key o m (w ∷ ws) first =
    let here = ap (value_weight w.0) (get_behind key o m w ws first) in
    let later = old_behind key o m ws (below_later key w ws first) in
    omega (arith, here, later)

-- Changes take the weight of the entries that they replace, and bring that of their own.
pub weight_rising : (ws : List Change) (m : Content) → KeysRise ws → weight (after ws m) + old_weight ws m ≡ weight m + changes_weight ws
weight_rising [] m rise = refl
weight_rising (w ∷ ws) m rise =
    let h = first_of_all w ws rise in
    let later = weight_rising ws (set_to w.0 w.1 m) h.later in
    let same = old_behind w.0 w.1 m ws h.first in
    let here = weight-set_to w.0 w.1 m in
    omega (arith, later, same, here)

-- the weight after the changes, by that of before
pub weight_is : (ws : List Change) (m : Content) (total old : ℕ) → KeysRise ws → total ≡ weight m → old ≡ old_weight ws m → (total + changes_weight ws) - old ≡ weight (after ws m)
weight_is ws m total old rise total_is old_is = let law = weight_rising ws m rise in omega (arith, law, total_is, old_is)
