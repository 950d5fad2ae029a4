use Rattle.std.proofs.Common.{◌∙◌, ap, sym}
use Rattle.ix_cursor.specs.Feeding.{term_at}
use Rattle.ix_cursor.specs.Seen.{seen_term}
use Rattle.ix_cursor.proofs.Slotting.{operands_set}
use Rattle.ix_cursor.proofs.Mixing.{mixed_more, mixed_all}
use Rattle.ix_cursor.proofs.seeing.see_operands.Goals as goal

pub loop-i-preserved : goal.loop-i-preserved
loop-i-preserved c =
    let item = c.index-operands-i.result in
    let new = c.see_term.new.term in
    record {
      keeps = λ d le. operands_set c.loop-i.operands c.loop-i.i new item d c.index-operands-i.is (c.in_ok-see_term.ensures.keeps d le ∙ ap (λ o. term_at o d) (sym c.index-operands-i.is)) ∙ c.loop-i.invariant.keeps d le;
      seen = mixed_more (λ p. seen_term p) (λ p. term_at p c.args.document) c.loop-i.operands c.loop-i.i new item (rw c.loop-i.auto.operands c.loop-i-test.true) c.index-operands-i.is (c.in_ok-see_term.ensures.seen ∙ ap (λ p. term_at p c.args.document) (sym c.index-operands-i.is)) ∙ c.loop-i.invariant.seen;
    }

pub returns-clause-seen : goal.returns-clause-seen
returns-clause-seen c = sym (mixed_all (λ p. seen_term p) (λ p. term_at p c.args.document) c.loop-i.operands c.loop-i.i (rw c.loop-i.auto.operands c.loop-i-test.false)) ∙ c.loop-i.invariant.seen
