use Rattle.std.proofs.Common.{ap, ◌∙◌}
use Rattle.ct_keep.specs.EntryKeys.{key_room}
use Rattle.ct_keep.specs.laws.EntryKeys.{keyed_none}
use Rattle.ct_keep.specs.Pairs.{content_of}
use Rattle.ct_keep.specs.laws.Pairs.{content_of-none}
use Rattle.ct_keep.specs.laws.Counting.{counts_none}
use Rattle.ct_keep.proofs.sorted_entries.SortedEntries.new.Goals as goal

pub invariant_of-result : goal.invariant_of-result
invariant_of-result c = record {
  keyed = keyed_none c.new.result (key_room c.of.result) c.new.ensures.ordered c.new.ensures.empty;
  counted = rw (c.new.ensures.empty, content_of-none, c.new-3.ensures) counts_none;
}

pub returns : goal.returns
returns c = ap content_of c.new.ensures.empty ∙ content_of-none
