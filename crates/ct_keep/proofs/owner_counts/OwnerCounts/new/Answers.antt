use Rattle.std.proofs.Common.{ap, ◌∙◌}
use Rattle.ct_keep.specs.EntryKeys.{key_room}
use Rattle.ct_keep.specs.laws.EntryKeys.{keyed_none}
use Rattle.ct_keep.specs.CountedPairs.{counts_of}
use Rattle.ct_keep.specs.laws.CountedPairs.{counts_of-none}
use Rattle.ct_keep.proofs.owner_counts.OwnerCounts.new.Goals as goal

pub invariant_of-result : goal.invariant_of-result
invariant_of-result c = keyed_none c.new.result (key_room c.of.result) c.new.ensures.ordered c.new.ensures.empty

pub returns : goal.returns
returns c = ap counts_of c.new.ensures.empty ∙ counts_of-none
