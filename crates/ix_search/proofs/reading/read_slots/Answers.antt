use Rattle.std.proofs.Common.{◌≡◌, [], ap, arith}
use Rattle.std.proofs.lemmas.Grind.{common_steps}
use Rattle.ct_keep.specs.laws.Composing.{reads_on, reads_hold}
use Rattle.ix_tokens.specs.laws.Looks.{looks_end}
use Rattle.ix_search.proofs.ReadSteps.{slots_on, slots_end, slots_rise}
use Rattle.ix_search.specs.Looking.{slots_looks, slot_looks}
use Rattle.ix_search.proofs.LookSteps.{looks_on}
use Rattle.ix_search.proofs.reading.read_slots.Goals as goal

pub loop-want-preserved : goal.loop-want-preserved
loop-want-preserved g c = record {
  reads = reads_on _ _ _ _ c.loop-want.invariant.reads c.in_ok-feed.ensures.reads;
  looks = λ m told. looks_on (slots_looks m c.args.index.now c.loop-want.want-iterator.rest.items) (slot_looks m c.args.index.now c.in-Some.want) (slots_looks m c.args.index.now c.next.new.self.rest.items) (slots_looks m c.args.index.now c.args.wanted.items) _ _ _ (c.loop-want.invariant.looks m told) (ap (slots_looks m c.args.index.now) c.in-Some.ensures.steps.0) (c.in_ok-feed.ensures.at_most m (reads_hold _ _ m c.loop-want.invariant.reads told));
  rise = slots_rise _ _ c.in_ok-feed.feed c.loop-want.invariant.rise c.in_ok-feed.ensures.rise c.in_ok-feeds.ensures;
  rows = λ m held told holds each.
      slots_on held c.args.wanted.items c.loop-want.want-iterator.rest.items c.next.new.self.rest.items c.in-Some.want c.loop-want.feeds c.in_ok-feeds.feeds c.in_ok-feed.feed
      (c.loop-want.invariant.rows m held told holds each) c.in-Some.ensures.steps.0
      (λ can. c.in_ok-feed.ensures.rows m (reads_hold _ _ m c.loop-want.invariant.reads told) held holds can) c.in_ok-feeds.ensures;
}

pub returns-clause-rows : goal.returns-clause-rows
returns-clause-rows g c = λ m told held holds each.
    let none : c.loop-want.want-iterator.rest.items ≡ [] = grind (arith, common_steps, c.in-None.ensures) in
    slots_end held c.args.wanted.items _ _ (c.loop-want.invariant.rows m held told holds each) none

pub returns-clause-at_most : goal.returns-clause-at_most
returns-clause-at_most g c = λ m told. looks_end _ (slots_looks m c.args.index.now c.args.wanted.items) _ _ (c.loop-want.invariant.looks m told)
