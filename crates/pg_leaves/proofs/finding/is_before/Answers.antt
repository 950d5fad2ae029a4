use Rattle.std.proofs.Common.{Option, ℕ, take, subst, arith}
use Rattle.std.proofs.lemmas.Bool.{eqb-true, false≢true, eq-eqb}
use Rattle.std.proofs.Common.{sym, ◌∙◌}
use Rattle.pg_directory.specs.Looking.{IsRankOr}
use Rattle.pg_leaves.proofs.Findings.{take_first, first_strings, first_rise, before_by_rank}
use Rattle.pg_leaves.proofs.finding.is_before.Goals as goal

pub returns-in_default-clause-before : goal.returns-in_default-clause-before
returns-in_default-clause-before g c = λ top pages holds strings.
    let first = take_first c.args.entries.now c.min.result (omega (arith, c.min.ensures)) (omega (arith, c.min.ensures)) (omega (arith, c.min.ensures)) in
    subst (λ (o : Option ℕ). IsRankOr o pages (take c.min.result c.args.entries.now) c.args.key.now) c.in_default.is
    (c.in_ok-rank.ensures.rank top pages holds (first_strings pages c.args.entries.now _ first strings) (first_rise pages c.args.entries.now _ first))

pub returns-clause-before : goal.returns-clause-before
returns-clause-before g c = λ top pages holds strings.
    let first = take_first c.args.entries.now c.min.result (omega (arith, c.min.ensures)) (omega (arith, c.min.ensures)) (omega (arith, c.min.ensures)) in
    before_by_rank pages c.args.entries.now _ first c.args.key.now c.in-Some.rank _
    (subst (λ (o : Option ℕ). IsRankOr o pages (take c.min.result c.args.entries.now) c.args.key.now) c.in-Some.is
    (c.in_ok-rank.ensures.rank top pages holds (first_strings pages c.args.entries.now _ first strings) (first_rise pages c.args.entries.now _ first)))
    (eqb-true c.in-Some.rank 0)
    (λ no_ is. false≢true (sym no_ ∙ eq-eqb c.in-Some.rank 0 is))
