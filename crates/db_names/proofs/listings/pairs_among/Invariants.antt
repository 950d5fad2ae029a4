use Rattle.std.proofs.Common.{map, take}
use Rattle.db_names.specs.Parts.{PairOf, Listed}
use Rattle.db_names.proofs.listings.pairs_among.Given as goal

abbrev pub invariant-loop-rest : goal.invariant-loop-rest
invariant-loop-rest l = Listed (PairOf l.table) (map (λ e. (e.0.items, e.1.items)) (take l.rest-index l.found)) l.pairs.items
