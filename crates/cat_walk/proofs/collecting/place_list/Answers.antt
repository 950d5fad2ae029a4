use Rattle.std.proofs.Common.{ap}
use Rattle.cat_walk.specs.Walks.{Places}
use Rattle.cat_walk.proofs.GatheredStops.{list_alike}
use Rattle.cat_walk.proofs.collecting.place_list.Goals as goal

pub returns-clause-stops : goal.returns-clause-stops
returns-clause-stops c = λ has. list_alike has c.args.places.items c.sort_places.new.places.items _ (ap Places c.of.ensures) c.sort_places.ensures.same
