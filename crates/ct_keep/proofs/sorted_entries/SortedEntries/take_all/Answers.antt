use Rattle.std.proofs.Common.{◌≡◌, [], ap, sym, ◌∙◌}
use Rattle.std.specs.FinMap.{entries}
use Rattle.ct_keep.specs.Content.{Content, after}
use Rattle.ct_keep.specs.Pairs.{pairs, HeldEntry}
use Rattle.ct_keep.specs.Transactions.{removals}
use Rattle.ct_keep.proofs.ContentLaws.{after_removals}
use Rattle.ct_keep.specs.laws.Pairs.{entries-content_of}
use Rattle.std.specs.Prelude.{List}
use Rattle.ct_keep.proofs.sorted_entries.SortedEntries.take_all.Goals as goal

pub returns : goal.returns
returns c =
    let all = c.gone.inside.entries.entries in
    let done : c.loop-key.key-iterator ≡ [] = c.in-None.ensures.steps.0 in
    let goes = λ (l : List HeldEntry) (m : Content). after (removals (pairs l)) m in
    sym (ap (λ (l : List HeldEntry). goes l c.loop-key.self) done) ∙ c.loop-key.invariant ∙ ap (λ (l : List HeldEntry). goes l c.args.self.now) c.into_iter-key-iterator.ensures.into_iter_gives.0
    ∙ after_removals (pairs all) c.args.self.now c.args.gone (ap entries (sym c.gone.view_is) ∙ entries-content_of all c.gone.invariant.keyed.ordered)
