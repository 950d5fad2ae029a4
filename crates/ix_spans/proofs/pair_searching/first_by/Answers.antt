use Rattle.std.proofs.Common.{sym, ◌∙◌}
use Rattle.std.proofs.lemmas.Bool.{ltb-true}
use Rattle.ix_spans.proofs.PairSearches.{past_first}
use Rattle.ix_spans.proofs.pair_searching.first_by.Goals as goal

pub returns-then-is_past : goal.returns-then-is_past
returns-then-is_past c =
    let past = ltb-true _ _ (sym c.is_past.ensures ∙ c.if-is_past.true) in
    sym (past_first c.args.pairs.now c.loop-pair.pair-index c.args.end c.args.turned (record { first = 0; last = 0 }) c.requires.order c.requires.turned c.loop-pair-test.true past) ∙ c.loop-pair.invariant
