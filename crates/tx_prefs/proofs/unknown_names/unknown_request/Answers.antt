use Rattle.std.proofs.Common.{None, sym, ◌∙◌}
use Rattle.ct_keep.specs.laws.Composing.{reads_on}
use Rattle.tx_prefs.proofs.UnknownSteps.{unknown_first, unknown_later}
use Rattle.tx_prefs.proofs.unknown_names.unknown_request.Goals as goal

pub returns-then-is_some-clause-unknown : goal.returns-then-is_some-clause-unknown
returns-then-is_some-clause-unknown g c = λ m told ps holds.
    let later = c.loop-rest.invariant.reads.content ∙ told in
    unknown_first ps c.first-item.result c.in_ok-unknown.unknown (c.in_ok-unknown.ensures.unknown m later ps holds) c.loop-rest.rest.now c.in-len1-up.len_at_least c.first-item.is (sym c.if-is_some.ensures)
    ∙ c.loop-rest.invariant.so_far m told ps holds

pub loop-rest-preserved : goal.loop-rest-preserved
loop-rest-preserved g c = record {
  reads = reads_on _ _ _ None c.loop-rest.invariant.reads c.in_ok-unknown.ensures.reads;
  so_far = λ m told ps holds.
      let later = c.loop-rest.invariant.reads.content ∙ told in
      unknown_later ps c.first-item.result c.in_ok-unknown.unknown (c.in_ok-unknown.ensures.unknown m later ps holds) c.loop-rest.rest.now c.in-len1-up.len_at_least c.first-item.is (sym c.if-is_some.ensures)
      ∙ c.loop-rest.invariant.so_far m told ps holds;
}
