use Rattle.std.proofs.Common.{◌-◌, drop, arith}
use Rattle.tx_tags.specs.laws.Stacks.{takes_tag}
use Rattle.tx_tags.proofs.PairingSteps.{one_more}
use Rattle.tx_tags.proofs.pairing.spans.Goals as goal

pub loop-at-preserved-in-Continue-1 : goal.loop-at-preserved-in-Continue-1
loop-at-preserved-in-Continue-1 c =
    let t = c.index-tags-at.result in
    let more = one_more c.args.tags.now (c.loop-at.at - 1) c.loop-at.at t (omega (arith, c.loop-at-test.true)) c.loop-at.invariant.within c.index-tags-at.is in
    record {
      within = omega (arith, c.loop-at.invariant.within);
      pairs = rw more (takes_tag c.args.tag c.args.end t (drop c.loop-at.at c.args.tags.now) c.loop-at.pairing c.take.new.self c.if-t-tag.true c.in_ok-take.ensures c.loop-at.invariant.pairs);
    }
