use Rattle.std.proofs.Common.{◌≡◌, ◌-◌, List, [], drop, get_or, length-set, arith, ap, ◌∙◌}
use Rattle.std.proofs.lemmas.Result.{IfOk-weaker}
use Rattle.tx_tags.specs.declared.pairing.Span.{Span}
use Rattle.tx_tags.specs.Pairs.{spans}
use Rattle.tx_tags.proofs.PairingSteps.{one_more, all_take, found_at}
use Rattle.tx_tags.proofs.pairing.all_spans.Goals as goal

pub loop-at-preserved-in-Continue-branch-2 : goal.loop-at-preserved-in-Continue-branch-2
loop-at-preserved-in-Continue-branch-2 c =
    let t = c.index-tags-at.result in
    let inv = c.loop-at.invariant in
    let more = one_more c.args.tags.now (c.loop-at.at - 1) c.loop-at.at t (omega (arith, c.loop-at-test.true)) inv.within c.index-tags-at.is in
    record {
      within = omega (arith, inv.within);
      count = length-set c.loop-at.pairings.items t.tag c.take.new.self ∙ inv.count;
      pairs = rw more (all_take c.args.count c.args.end c.loop-at.pairings.items t (drop c.loop-at.at c.args.tags.now) c.index_mut.result.now c.take.new.self
          inv.count c.if-t-count.true c.index_mut.ensures.value c.in_ok-take.ensures inv.pairs);
    }

pub returns-clause-spans : goal.returns-clause-spans
returns-clause-spans c =
    let inv = c.loop-at.invariant in
    let all = c.args.tags.now in
    let start : c.loop-at.at ≡ 0 = omega (arith, c.loop-at-test.false) in
    IfOk-weaker c.found_spans.result _ _ (λ v is k few.
    ap (λ (l : List (List Span)). get_or l k []) is
    ∙ found_at c.loop-at.pairings.items k (spans k c.args.end all) (omega (arith, few, inv.count))
    (λ d. let p = inv.pairs k d few in p.spans ∙ ap (λ n. spans k c.args.end (drop n all)) start)) c.found_spans.ensures
