use Rattle.std.proofs.Common.{◌≡◌, length}
use Rattle.std.specs.List.{list_any}
use Rattle.th_graph.specs.Pairs.{term_pair, same_term_pair}
use Rattle.th_graph.specs.Places.{passes_at}
use Rattle.th_graph.proofs.thesauri.Thesaurus.is_at_one.Given as goal

abbrev pub invariant-loop-rest : goal.invariant-loop-rest
invariant-loop-rest l = list_any (passes_at l.self (same_term_pair (term_pair l.kind l.first l.second))) l.rest ≡ list_any (passes_at l.self (same_term_pair (term_pair l.kind l.first l.second))) l.places

abbrev pub decreases-loop-rest : goal.decreases-loop-rest
decreases-loop-rest l = length l.rest
