use Rattle.std.proofs.Common.{arith, ◌-◌, List, length, take, drop, subst}
use Rattle.std.specs.Str.{chars}
use Rattle.ct_base.specs.laws.Lists.{first_of}
use Rattle.ct_keep.specs.laws.Composing.{reads_none, reads_on, reads_hold}
use Rattle.q_tree.specs.declared.flats.PatternBit.{PatternBit}
use Rattle.q_tree.specs.Slots.{matches}
use Rattle.cat_walk.specs.Gathering.{AddsPlaces}
use Rattle.cat_walk.specs.laws.Sparing.{spares_none, spares_on}
use Rattle.cat_walk.proofs.GatheredPlaces.{any_next, any_none}
use Rattle.cat_walk.proofs.gathering.put_patterns.Goals as goal

pub loop-rest-init : goal.loop-rest-init
loop-rest-init g c = record { reads = reads_none _ c.requires; spares = spares_none _ _; adds = λ m told new adds. adds }

pub loop-rest-preserved : goal.loop-rest-preserved
loop-rest-preserved g c =
    let rest = c.loop-rest.rest.now in
    let pattern = c.pattern-item.result in
    record {
      reads = reads_on _ _ _ _ c.loop-rest.invariant.reads c.in_ok-put_pattern.ensures.reads;
      spares = spares_on _ _ _ _ c.loop-rest.invariant.reads c.loop-rest.invariant.spares c.in_ok-put_pattern.ensures.spares;
      adds = λ m told new adds.
          c.loop-rest.invariant.adds m told new
          (any_next m c.args.stem.now (λ p word. matches p (chars word)) rest (take (length rest - 1) (drop 1 rest)) pattern c.loop-rest.places.items c.put_pattern.new.places.items new
          (first_of rest pattern c.in-len1-up.len_at_least c.pattern-item.is)
          (subst (λ (p : List PatternBit). AddsPlaces m c.args.stem.now (λ word. matches p (chars word)) c.loop-rest.places.items c.put_pattern.new.places.items) c.as_slice.ensures
          (c.in_ok-put_pattern.ensures.places m (reads_hold _ _ m c.loop-rest.invariant.reads told))) adds);
    }

pub returns-clause-places : goal.returns-clause-places
returns-clause-places g c = λ m told. c.loop-rest.invariant.adds m told c.loop-rest.places.items (any_none m c.args.stem.now (λ p word. matches p (chars word)) c.loop-rest.rest.now c.loop-rest.places.items (omega arith))
