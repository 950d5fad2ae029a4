use Rattle.std.proofs.Common.{sym, ap, ◌∙◌}
use Rattle.ct_keep.specs.Content.{weight}
use Rattle.ct_keep.specs.laws.Content.{weight-empty}
use Rattle.ct_keep.proofs.entry_maps.EntryMap.new.Goals as goal

pub invariant_of-result : goal.invariant_of-result
invariant_of-result c = sym (ap weight c.new.ensures ∙ weight-empty)
