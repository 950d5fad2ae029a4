use Rattle.std.proofs.Common.{append-nil}
use Rattle.std.proofs.lemmas.List.{map-append}
use Rattle.ct_keep.specs.laws.Composing.{reads_none, reads_on, reads_hold}
use Rattle.ct_keep.specs.laws.Rising.{begins_itself, begins_with_prefix}
use Rattle.ct_keep.proofs.Scanning.{scanning_none, scanning_more, scanning_ends}
use Rattle.ct_keep.proofs.scans.scan.Goals as goal

pub steps-init : goal.steps-init
steps-init g c = record {
  reads = reads_none _ c.requires;
  begins = rw (c.in_ok-last.ensures, append-nil) (begins_itself c.args.prefix.now);
  told = λ m holds. rw (c.in_ok-last.ensures, append-nil, c.new-found.ensures.items) (scanning_none c.args.prefix.now m _);
}

pub returns-in-None-clause-entries : goal.returns-in-None-clause-entries
returns-in-None-clause-entries g c m holds =
    let here = reads_hold _ _ m c.steps.invariant.reads holds in
    let none = rw c.in-None.is at (c.in_ok-step_under.ensures.entry m here) in
    scanning_ends _ _ m _ _ _ (g.K.Keeper.view c.step_under.new.keeper).counts (c.steps.invariant.told m holds) none c.steps.invariant.begins

pub steps-preserved : goal.steps-preserved
steps-preserved g c =
    let last = rw c.in-Some.is at c.in_ok-step_under.ensures.last in
    record {
      reads = reads_on _ _ _ _ c.steps.invariant.reads c.in_ok-step_under.ensures.reads;
      begins = rw last (begins_with_prefix c.args.prefix.now c.in-Some.entry.0.items);
      told = λ m holds.
          let here = reads_hold _ _ m c.steps.invariant.reads holds in
          let some = rw c.in-Some.is at (c.in_ok-step_under.ensures.entry m here) in
          rw (c.in_ok-push-in-Some.ensures, map-append) (scanning_more _ _ m _ _ _ _ (c.steps.invariant.told m holds) (c.in-Some.entry.0.items, c.in-Some.entry.1.items) _ some last (c.in_ok-step_under.ensures.at_most m here));
    }
