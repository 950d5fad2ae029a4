use Rattle.ct_keep.specs.Changes.{AnyEntry}
use Rattle.ct_keep.specs.laws.Changes.{holds_none}
use Rattle.ct_keep.proofs.holdings.Holding.new.Goals as goal

pub invariant_of-result : goal.invariant_of-result
invariant_of-result c = record { entries = rw c.new.ensures (holds_none AnyEntry) }
