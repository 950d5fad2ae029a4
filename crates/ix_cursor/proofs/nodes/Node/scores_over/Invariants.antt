use Rattle.std.proofs.Common.{◌≡◌, ◌++◌, drop, map}
use Rattle.ix_cursor.specs.Nodes.{seen_score}
use Rattle.ix_cursor.proofs.nodes.Node.scores_over.Given as goal

abbrev pub invariant-loop-pair : goal.invariant-loop-pair
invariant-loop-pair l = l.scores.items ++ map (λ p. seen_score l.self p.first p.last) (drop l.pair-index l.pairs) ≡ map (λ p. seen_score l.self p.first p.last) l.pairs
