use Rattle.std.proofs.Common.{◌≡◌, ◌∙◌}
use Rattle.ct_keep.specs.laws.Composing.{reads_on, reads_hold}
use Rattle.ct_entry.specs.Keys.{prefix_of}
use Rattle.ct_entry.specs.laws.Removals.{removes_one, removes_then}
use Rattle.ct_entry.proofs.RemovalSteps.{looked_as, removing_more, removing_ends, removing_rises, removing_short}
use Rattle.ct_entry.proofs.removals.remove_longer.Goals as goal

pub returns-in_err-next_under-clause-at_most : goal.returns-in_err-next_under-clause-at_most
returns-in_err-next_under-clause-at_most g c m holds =
    let prefix : c.deref.result.now ≡ prefix_of c.args.kind c.args.owner.now = c.deref.ensures.value ∙ c.in_ok-prefix.ensures in
    let looked = looked_as _ _ _ _ _ m _ _ prefix c.deref-in-entries.ensures.value (c.next_under.ensures.at_most m (reads_hold _ _ m c.entries.invariant.reads holds)) in
    removing_rises _ _ _ m _ _ _ _ _ (c.entries.invariant.told m holds) looked

pub returns-in-None-clause-ok : goal.returns-in-None-clause-ok
returns-in-None-clause-ok g c m holds =
    let prefix : c.deref.result.now ≡ prefix_of c.args.kind c.args.owner.now = c.deref.ensures.value ∙ c.in_ok-prefix.ensures in
    let none = rw (c.in-None.is, prefix, c.deref-in-entries.ensures.value) at (c.in_ok-next_under.ensures.entry m (reads_hold _ _ m c.entries.invariant.reads holds)) in
    removing_ends _ _ _ m _ _ _ _ (c.entries.invariant.told m holds) none

pub returns-in-None-clause-at_most : goal.returns-in-None-clause-at_most
returns-in-None-clause-at_most g c m holds =
    let prefix : c.deref.result.now ≡ prefix_of c.args.kind c.args.owner.now = c.deref.ensures.value ∙ c.in_ok-prefix.ensures in
    let looked = looked_as _ _ _ _ _ m _ _ prefix c.deref-in-entries.ensures.value (c.in_ok-next_under.ensures.at_most m (reads_hold _ _ m c.entries.invariant.reads holds)) in
    removing_rises _ _ _ m _ _ _ _ _ (c.entries.invariant.told m holds) looked

pub returns-in_err-remove_entry-in-Some-clause-at_most : goal.returns-in_err-remove_entry-in-Some-clause-at_most
returns-in_err-remove_entry-in-Some-clause-at_most g c m holds =
    let prefix : c.deref.result.now ≡ prefix_of c.args.kind c.args.owner.now = c.deref.ensures.value ∙ c.in_ok-prefix.ensures in
    let looked = looked_as _ _ _ _ _ m _ _ prefix c.deref-in-entries.ensures.value (c.in_ok-next_under.ensures.at_most m (reads_hold _ _ m c.entries.invariant.reads holds)) in
    removing_rises _ _ _ m _ _ _ _ _ (c.entries.invariant.told m holds) looked

pub entries-preserved : goal.entries-preserved
entries-preserved g c =
    let prefix : c.deref.result.now ≡ prefix_of c.args.kind c.args.owner.now = c.deref.ensures.value ∙ c.in_ok-prefix.ensures in
    let removed = rw c.deref-in-Some.ensures.value at c.in_ok-remove_entry-in-Some.ensures.ok in
    record {
      reads = reads_on _ _ _ _ c.entries.invariant.reads c.in_ok-next_under.ensures.reads;
      removes = removes_then _ _ _ c.entries.invariant.removes (removes_one _ _ _ c.in_ok-remove_entry-in-Some.ensures.ok);
      told = λ m holds.
          let here = reads_hold _ _ m c.entries.invariant.reads holds in
          let some = rw (c.in-Some.is, prefix, c.deref-in-entries.ensures.value) at (c.in_ok-next_under.ensures.entry m here) in
          let looked = looked_as _ _ _ _ _ m _ _ prefix c.deref-in-entries.ensures.value (c.in_ok-next_under.ensures.at_most m here) in
          removing_more _ _ _ _ c.in-Some._value.items m _ _ _ _ _ _ (c.entries.invariant.told m holds) some removed looked;
    }

pub returns-clause-at_most : goal.returns-clause-at_most
returns-clause-at_most g c m holds = removing_short _ _ _ m _ _ _ _ (c.entries.invariant.told m holds)
