use Rattle.std.proofs.Common.{◌≡◌, ◌++◌, ◌∷◌, [], length}
use Rattle.std.specs.List.{flat_map}
use Rattle.cat_walk.proofs.scanning.put_rests.Given as goal

abbrev pub invariant-loop-rest : goal.invariant-loop-rest
invariant-loop-rest l = l.places.items ++ flat_map (λ e. e.0.items ∷ []) l.rest ≡ l.fn.places.items ++ flat_map (λ e. e.0.items ∷ []) l.entries

abbrev pub decreases-loop-rest : goal.decreases-loop-rest
decreases-loop-rest l = length l.rest
