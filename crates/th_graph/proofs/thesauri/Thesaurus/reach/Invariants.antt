use Rattle.std.proofs.Common.{◌≡◌, ◌-◌, ◌≤◌}
use Rattle.th_graph.specs.Answers.{AreWithinLimit}
use Rattle.th_graph.specs.Expansions.{terms_within}
use Rattle.th_graph.proofs.Frontiers.{IsFrontier}
use Rattle.th_graph.proofs.thesauri.Thesaurus.reach.Given as goal

abbrev pub invariant-loop-left : goal.invariant-loop-left
invariant-loop-left l = record {
  bounded : l.left ≤ l.rounds;
  found : l.found.items ≡ terms_within l.self l.relation (l.rounds - l.left) l.term;
  terms : AreWithinLimit l.found.items;
  frontier : IsFrontier l.self l.relation l.found.items l.fresh.items;
}

abbrev pub decreases-loop-left : goal.decreases-loop-left
decreases-loop-left l = l.left
