use Rattle.ct_keep.specs.Changes.{AnyEntry}
use Rattle.ct_entry.specs.laws.Removals.{well_removes}
use Rattle.keeper_tests.proofs.entries.remove_all.Goals as goal

pub commit-requires : goal.commit-requires
commit-requires c = well_removes AnyEntry _ _ c.in_ok-remove_entries.ensures.removes (rw c.new-batch.ensures tt)
