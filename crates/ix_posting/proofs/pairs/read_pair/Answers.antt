use Rattle.std.proofs.Common.{arith, subst}
use Rattle.std.proofs.lemmas.Bool.{false≢true}
use Rattle.ct_base.specs.declared.numbers.Pair.{Pair}
use Rattle.ix_posting.specs.Forms.{ComesAfter}
use Rattle.ix_posting.specs.laws.Pairs.{same_pair, steps_of}
use Rattle.ix_posting.proofs.PairSteps.{extent_at, pair_sums}
use Rattle.ix_posting.proofs.pairs.read_pair.Goals as goal
use Rattle.ix_posting.proofs.pairs.read_pair.Goals.{then-first-eq0-via-then-first-eq0, then-first-eq0-via-else-first-eq0+then-not-follows}

pub returns-in_err-extent-clause-none : goal.returns-in_err-extent-clause-none
returns-in_err-extent-clause-none c = rw c.from_residual-in_err-extent.ensures (λ p next is. c.in_err-extent.ensures.none _ _ (extent_at _ _ _ p next _ _ c.in_ok-step.ensures.some is))

pub returns-in_err-first-clause-none : goal.returns-in_err-first-clause-none
returns-in_err-first-clause-none c = rw c.from_residual-in_err-first.ensures (λ p next is.
    let sums = pair_sums _ _ _ p next _ _ _ _ c.in_ok-step.ensures.some c.in_ok-extent.ensures.some is in
    c.in_err-first.ensures (omega (arith, sums.0, is.alone.1, is.alone.2)))

pub returns-in_err-last-clause-none : goal.returns-in_err-last-clause-none
returns-in_err-last-clause-none c = rw c.from_residual-in_err-last.ensures (λ p next is.
    let sums = pair_sums _ _ _ p next _ _ _ _ c.in_ok-step.ensures.some c.in_ok-extent.ensures.some is in
    c.in_err-last.ensures (omega (arith, sums.1, c.in_ok-first.ensures.1, is.alone.2)))

pub returns-then-first-eq0-clause-none : goal.returns-then-first-eq0-clause-none
returns-then-first-eq0-clause-none c = λ p next is.
    let sums = pair_sums _ _ _ p next _ _ _ _ c.in_ok-step.ensures.some c.in_ok-extent.ensures.some is in
    elim c.then-first-eq0.branch [
      | then-first-eq0-via-then-first-eq0 w ↦ omega (arith, sums.0, c.in_ok-first.ensures.1, is.alone.0, w.if-first-eq0.true)
      | then-first-eq0-via-else-first-eq0+then-not-follows w ↦
          let pair : Pair = record { first = c.in_ok-first.first; last = c.in_ok-last.last } in
          let same = same_pair p pair (omega (arith, sums.0, c.in_ok-first.ensures.1)) (omega (arith, sums.1, c.in_ok-first.ensures.1, c.in_ok-last.ensures.1)) in
          false≢true (w.if-not-follows.ensures.1 (subst (ComesAfter c.args.before) same is.follows))
    ]

pub returns-in_err-step-clause-none : goal.returns-in_err-step-clause-none
returns-in_err-step-clause-none c = rw c.from_residual.ensures (λ p next is. c.in_err-step.ensures.none _ _ (steps_of _ _ _ p next is).step)
