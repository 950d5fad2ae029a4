use Rattle.std.proofs.Common.{◌≡◌, [], sym, ap, subst, arith}
use Rattle.std.proofs.lemmas.Grind.{common_steps}
use Rattle.ct_base.specs.Names.{IsName}
use Rattle.ct_keep.specs.laws.Composing.{reads_on, reads_hold}
use Rattle.ct_entry.specs.Lists.{EachIs}
use Rattle.ix_tokens.specs.laws.Looks.{looks_end}
use Rattle.ix_search.specs.Reading.{HoldsName, section_feed}
use Rattle.ix_search.proofs.ReadSteps.{read_on, read_ends, sections_rise}
use Rattle.ix_search.specs.Looking.{names_looks, name_looks}
use Rattle.ix_search.proofs.LookSteps.{looks_on}
use Rattle.ix_search.proofs.reading.read_names.Goals as goal

pub loop-name-preserved : goal.loop-name-preserved
loop-name-preserved g c = record {
  reads = reads_on _ _ _ _ c.loop-name.invariant.reads c.in_ok-feed.ensures.reads;
  named = λ rest. c.loop-name.invariant.named (subst (EachIs IsName) (sym c.in-Some.ensures.steps.0) (c.in_ok-feed.ensures.named, rest));
  looks = λ m told. looks_on (names_looks m c.args.index.now c.loop-name.name-iterator.rest.items) (name_looks m c.args.index.now c.in-Some.name) (names_looks m c.args.index.now c.next.new.self.rest.items) (names_looks m c.args.index.now c.args.names.items) _ _ _ (c.loop-name.invariant.looks m told) (ap (names_looks m c.args.index.now) c.in-Some.ensures.steps.0) (c.in_ok-feed.ensures.at_most m (reads_hold _ _ m c.loop-name.invariant.reads told));
  rise = sections_rise _ _ c.in_ok-feed.feed c.loop-name.invariant.rise c.in_ok-feed.ensures.rise c.in_ok-feeds.ensures;
  rows = λ m held told each.
      read_on (HoldsName m c.args.index.now held) (section_feed held) c.args.names.items c.loop-name.name-iterator.rest.items c.next.new.self.rest.items c.in-Some.name c.loop-name.feeds c.in_ok-feeds.feeds c.in_ok-feed.feed
      (c.loop-name.invariant.rows m held told each) c.in-Some.ensures.steps.0
      (λ here. c.in_ok-feed.ensures.rows m (reads_hold _ _ m c.loop-name.invariant.reads told) held here) c.in_ok-feeds.ensures;
}

pub returns-clause-rows : goal.returns-clause-rows
returns-clause-rows g c = λ m told held each.
    let none : c.loop-name.name-iterator.rest.items ≡ [] = grind (arith, common_steps, c.in-None.ensures) in
    read_ends (HoldsName m c.args.index.now held) (section_feed held) c.args.names.items _ _ (c.loop-name.invariant.rows m held told each) none

pub returns-clause-at_most : goal.returns-clause-at_most
returns-clause-at_most g c = λ m told. looks_end _ (names_looks m c.args.index.now c.args.names.items) _ _ (c.loop-name.invariant.looks m told)
