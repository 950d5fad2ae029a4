use Rattle.std.proofs.Common.{ℕ, List, ◌∙◌, ap}
use Rattle.cat_walk.specs.Places.{is_first}
use Rattle.cat_walk.proofs.Listing.{first_is_listed}
use Rattle.cat_walk.proofs.listed.is_listed.Goals as goal

pub returns : goal.returns
returns c = c.is_first.ensures ∙ ap (λ (ps : List (List ℕ)). is_first ps c.args.place.now) c.from_on.ensures ∙ first_is_listed c.args.place.now c.args.places.now c.requires
