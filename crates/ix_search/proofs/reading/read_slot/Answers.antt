use Rattle.std.proofs.Common.{◌∙◌}
use Rattle.ct_keep.specs.laws.Composing.{reads_hold}
use Rattle.ix_search.proofs.ReadSteps.{both_rise, slot_is}
use Rattle.ix_search.proofs.reading.read_slot.Goals as goal

pub returns-clause-rise : goal.returns-clause-rise
returns-clause-rise g c = both_rise c.in_ok-tokens.tokens.items c.in_ok-found.found.items c.of.result c.in_ok-tokens.ensures.rise c.in_ok-found.ensures.rise (c.of.ensures ∙ c.in_ok-put_all.ensures)

pub returns-clause-rows : goal.returns-clause-rows
returns-clause-rows g c = λ m told held holds can.
    slot_is m c.args.index.now held c.args.wanted c.keys_of.result.now c.patterns_of.result.now c.in_ok-tokens.tokens.items c.in_ok-found.found.items c.of.result holds can c.keys_of.ensures c.patterns_of.ensures
    (c.in_ok-tokens.ensures.rows m told) (λ stream. c.in_ok-found.ensures.rows m (reads_hold _ _ m c.in_ok-tokens.ensures.reads told) held stream) (c.of.ensures ∙ c.in_ok-put_all.ensures)
