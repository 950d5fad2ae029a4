use Rattle.std.proofs.Common.{◌≡◌, ◌++◌, ℤ, ℕ, map}
use Rattle.ix_search.proofs.scores.Scores.into_hits.Given as goal

abbrev pub invariant-loop-key : goal.invariant-loop-key
invariant-loop-key l = map {B = ℤ × ℕ} (λ h. (h.key.0, h.score)) l.hits.items ++ l.key-iterator ≡ l.initial.key-iterator
