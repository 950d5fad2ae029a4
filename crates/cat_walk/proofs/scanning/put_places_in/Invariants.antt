use Rattle.std.proofs.Common.{◌≡◌, ◌++◌, length}
use Rattle.std.specs.List.{flat_map}
use Rattle.cat_walk.specs.Scanned.{IsTried, places_in}
use Rattle.cat_walk.proofs.scanning.put_places_in.Given as goal

abbrev pub invariant-loop-rest : goal.invariant-loop-rest
invariant-loop-rest l = record {
  tried : IsTried l.pattern l.literal l.last;
  so_far : l.places.items ++ flat_map (λ e. places_in l.pattern l.literal l.more e.0.items) l.rest ≡ l.fn.places.items ++ flat_map (λ e. places_in l.pattern l.literal l.more e.0.items) l.entries;
}

abbrev pub decreases-loop-rest : goal.decreases-loop-rest
decreases-loop-rest l = length l.rest
