use Rattle.std.proofs.Common.{◌≡◌, map, take}
use Rattle.ct_entry.specs.Listings.{owners_of}
use Rattle.ct_entry.proofs.listings.owners_among.Given as goal

abbrev pub invariant-loop-rest : goal.invariant-loop-rest
invariant-loop-rest l = l.names.items ≡ owners_of (map (λ e. (e.0.items, e.1.items)) (take l.rest-index l.found))
