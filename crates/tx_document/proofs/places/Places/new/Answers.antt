use Rattle.std.proofs.Common.{ap, ◌∙◌}
use Rattle.tx_document.specs.Places.{map_of}
use Rattle.tx_document.proofs.SeenMaps.{map_of-none}
use Rattle.tx_document.proofs.places.Places.new.Goals as goal

pub returns : goal.returns
returns c = ap map_of c.new.ensures.empty ∙ map_of-none
