use Rattle.std.proofs.Common.{ap, sym, ◌∙◌}
use Rattle.std.proofs.lemmas.Bool.{false≢true}
use Rattle.std.specs.FinMap.{entries}
use Rattle.ct_keep.specs.laws.Pairs.{entries-content_of}
use Rattle.ct_keep.proofs.EachWell.{all_well, not_well}
use Rattle.ct_keep.proofs.sorted_entries.SortedEntries.are_well.Goals as goal

pub returns-then-not-branch : goal.returns-then-not-branch
returns-then-not-branch g c =
    let all = c.self.inside.entries.entries in
    not_well _ c.args.self.now all c.into_iter-key-iterator.result c.loop-key.key-iterator c.next.new.self (c.in-Some.key.now, c.in-Some.value.now) (ap entries (sym c.self.view_is) ∙ entries-content_of all c.self.invariant.keyed.ordered) c.into_iter-key-iterator.ensures.into_iter_gives.0 c.loop-key.invariant c.in-Some.ensures.steps (λ is. false≢true (sym c.if-not-branch.true ∙ c.in_ok-is_well.ensures.1 (let k = c.as_slice.ensures in let v = c.deref.ensures.value in rw (k, v) is)))

pub returns : goal.returns
returns g c =
    let all = c.self.inside.entries.entries in
    all_well _ c.args.self.now all c.into_iter-key-iterator.result c.loop-key.key-iterator (ap entries (sym c.self.view_is) ∙ entries-content_of all c.self.invariant.keyed.ordered) c.into_iter-key-iterator.ensures.into_iter_gives.0 c.loop-key.invariant c.in-None.ensures.steps.0
