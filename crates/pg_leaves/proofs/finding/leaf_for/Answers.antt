use Rattle.std.proofs.Common.{Option, ℕ, subst, arith}
use Rattle.pg_directory.specs.Looking.{IsRankOr}
use Rattle.pg_leaves.proofs.Findings.{leaf_by_rank}
use Rattle.pg_leaves.proofs.finding.leaf_for.Goals as goal

pub returns-clause-leaf : goal.returns-clause-leaf
returns-clause-leaf g c = λ top pages holds strings rise.
    leaf_by_rank pages c.args.leasts.now c.args.key.now c.in-Some.rank c.saturating_sub.result
    (subst (λ (o : Option ℕ). IsRankOr o pages c.args.leasts.now c.args.key.now) c.in-Some.is (c.in_ok-rank.ensures.rank top pages holds strings rise))
    (omega (arith, c.saturating_sub.ensures))
