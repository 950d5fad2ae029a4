use Rattle.std.proofs.Common.{length}
use Rattle.std.specs.List.{flat_map}
use Rattle.th_graph.specs.Places.{next_at}
use Rattle.th_graph.proofs.Gathering.{AreGathering}
use Rattle.th_graph.proofs.thesauri.Thesaurus.put_next_terms.Given as goal

abbrev pub invariant-loop-rest : goal.invariant-loop-rest
invariant-loop-rest l = AreGathering l.found.items l.newer.items (flat_map (next_at l.self l.relation l.term) l.rest) l.fn.found.items l.fn.newer.items (flat_map (next_at l.self l.relation l.term) l.initial.rest)

abbrev pub decreases-loop-rest : goal.decreases-loop-rest
decreases-loop-rest l = length l.rest
