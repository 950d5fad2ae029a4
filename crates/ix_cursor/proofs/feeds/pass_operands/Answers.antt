use Rattle.std.proofs.Common.{◌∙◌, ap, sym}
use Rattle.ix_cursor.specs.Feeding.{term_at}
use Rattle.ix_cursor.specs.MayScore.{may_match}
use Rattle.ix_cursor.specs.Passing.{term_passed}
use Rattle.ix_cursor.proofs.Bounds.{all_more, all_end, all_true, all_same}
use Rattle.ix_cursor.proofs.Slotting.{operands_set}
use Rattle.ix_cursor.proofs.feeds.pass_operands.Goals as goal

pub loop-i-preserved : goal.loop-i-preserved
loop-i-preserved c =
    let operands = c.loop-i.operands in
    let i = c.loop-i.i in
    let new = c.pass_term.new.term in
    record {
      keeps = λ d le. operands_set operands i new c.index-operands-i.result d c.index-operands-i.is (c.in_ok-pass_term.ensures.keeps d le ∙ ap (λ o. term_at o d) (sym c.index-operands-i.is)) ∙ c.loop-i.invariant.keeps d le;
      passed = all_true (term_passed c.args.to) operands i new (rw c.loop-i.auto.operands c.loop-i-test.true) c.loop-i.invariant.passed (c.in_ok-pass_term.ensures.passed);
      bound = rw c.later-bound.ensures (all_more c.args.to (λ d x. may_match (term_at x d)) operands i new c.loop-i.bound c.in_ok-pass_term.field-0 (rw c.loop-i.auto.operands c.loop-i-test.true) c.loop-i.invariant.bound c.in_ok-pass_term.ensures.bound);
    }

pub returns-clause-bound : goal.returns-clause-bound
returns-clause-bound c = all_end c.args.to may_match (λ d x. term_at x d) c.loop-i.operands c.loop-i.i c.loop-i.bound (rw c.loop-i.auto.operands c.loop-i-test.false) c.loop-i.invariant.bound

pub returns-clause-passed : goal.returns-clause-passed
returns-clause-passed c = all_same (term_passed c.args.to) c.loop-i.operands c.loop-i.i (rw c.loop-i.auto.operands c.loop-i-test.false) ∙ c.loop-i.invariant.passed
