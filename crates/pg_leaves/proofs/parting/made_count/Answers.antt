use Rattle.std.proofs.Common.{◌∙◌, ap, arith}
use Rattle.pg_leaves.specs.Relisting.{one_if_made}
use Rattle.pg_leaves.proofs.Makings.{count_more}
use Rattle.pg_leaves.proofs.parting.made_count.Goals as goal

pub loop-i-preserved : goal.loop-i-preserved
loop-i-preserved c =
    let more = count_more c.args.leaves.now c.loop-i.i c.index-leaves-i.result c.loop-i-test.true c.index-leaves-i.is in
    let before = c.loop-i.invariant.is in
    let one = c.one_if_made-count.ensures.one ∙ ap one_if_made c.index-leaves-i.is in
    record { most = omega (arith, c.loop-i.invariant.most, c.one_if_made-count.ensures.most); is = omega (arith, more, before, one) }
