use Rattle.std.proofs.Common.{ap, ◌∙◌, List}
use Rattle.ct_keep.specs.Content.{Content, entries_above, first_entry}
use Rattle.ct_keep.specs.EntryKeys.{key_bytes}
use Rattle.ct_keep.specs.Pairs.{pairs, HeldEntry}
use Rattle.ct_keep.proofs.SortedPairs.{first_pair, entries_above-content_of}
use Rattle.ct_keep.proofs.sorted_entries.SortedEntries.first_after.Goals as goal

pub returns : goal.returns
returns c = first_pair c.next.result c.range.result c.next.new.self c.next.ensures.steps
    ∙ ap (λ (l : List HeldEntry). first_entry (pairs l)) (c.range.ensures.between tt)
    ∙ ap first_entry (entries_above-content_of c.args.key.now c.self.inside.entries.entries c.self.invariant.keyed.ordered)
    ∙ ap (λ (m : Content). first_entry (entries_above (key_bytes c.args.key.now) m)) c.self.view_is
