use Rattle.std.proofs.Common.{◌≡◌, ◌++◌, map, drop}
use Rattle.ct_entry.specs.Listings.{rows_of}
use Rattle.rule_index.proofs.matching.rows_in.Given as goal

abbrev pub invariant-loop-rest : goal.invariant-loop-rest
invariant-loop-rest l = map (λ r. r.0) l.rows.items ++ rows_of (map (λ e. (e.0.items, e.1.items)) (drop l.rest-index l.found)) ≡ rows_of (map (λ e. (e.0.items, e.1.items)) l.found)
