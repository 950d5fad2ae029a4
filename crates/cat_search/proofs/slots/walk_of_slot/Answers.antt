use Rattle.std.proofs.Common.{ap}
use Rattle.cat_walk.specs.Walks.{Places}
use Rattle.cat_search.proofs.Compiled.{places_walk}
use Rattle.cat_search.proofs.slots.walk_of_slot.Goals as goal

pub returns-clause-walk : goal.returns-clause-walk
returns-clause-walk g c = λ m told.
    places_walk m c.args.stem.now c.args.slot.now c.in_ok-places.places.items _ c.requires.some (c.in_ok-places.ensures.places m told) (ap Places c.of.ensures)
