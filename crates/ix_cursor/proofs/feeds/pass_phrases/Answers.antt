use Rattle.std.proofs.Common.{◌∙◌, ap, sym}
use Rattle.ix_cursor.specs.Feeding.{phrase_at}
use Rattle.ix_cursor.specs.MayScore.{may_occur}
use Rattle.ix_cursor.specs.Passing.{phrase_passed}
use Rattle.ix_cursor.proofs.Bounds.{any_more, any_end, all_true, all_same}
use Rattle.ix_cursor.proofs.Slotting.{phrases_set}
use Rattle.ix_cursor.proofs.feeds.pass_phrases.Goals as goal

pub loop-i-preserved : goal.loop-i-preserved
loop-i-preserved c =
    let phrases = c.loop-i.phrases in
    let i = c.loop-i.i in
    let new = c.pass_phrase.new.phrase in
    record {
      keeps = λ d le. phrases_set phrases i new c.index-phrases-i.result d c.index-phrases-i.is (c.in_ok-pass_phrase.ensures.keeps d le ∙ ap (λ o. phrase_at o d) (sym c.index-phrases-i.is)) ∙ c.loop-i.invariant.keeps d le;
      passed = all_true (phrase_passed c.args.to) phrases i new (rw c.loop-i.auto.phrases c.loop-i-test.true) c.loop-i.invariant.passed (c.in_ok-pass_phrase.ensures.passed);
      bound = rw c.earlier-bound.ensures (any_more c.args.to (λ d x. may_occur (phrase_at x d)) phrases i new c.loop-i.bound c.in_ok-pass_phrase.field-0 (rw c.loop-i.auto.phrases c.loop-i-test.true) c.loop-i.invariant.bound c.in_ok-pass_phrase.ensures.bound);
    }

pub returns-clause-bound : goal.returns-clause-bound
returns-clause-bound c = any_end c.args.to may_occur (λ d x. phrase_at x d) c.loop-i.phrases c.loop-i.i c.loop-i.bound (rw c.loop-i.auto.phrases c.loop-i-test.false) c.loop-i.invariant.bound

pub returns-clause-passed : goal.returns-clause-passed
returns-clause-passed c = all_same (phrase_passed c.args.to) c.loop-i.phrases c.loop-i.i (rw c.loop-i.auto.phrases c.loop-i-test.false) ∙ c.loop-i.invariant.passed
