use Rattle.std.proofs.Common.{◌≡◌, length}
use Rattle.ix_indexes.specs.Noting.{noted_by, noted_looks_any}
use Rattle.db_change.specs.Updating.{places_set}
use Rattle.db_change.proofs.updating.looks_at_set.Given as goal

abbrev pub invariant-loop-rest : goal.invariant-loop-rest
invariant-loop-rest l = noted_looks_any (places_set l.columns l.rest) (noted_by l.index.noting) ≡ noted_looks_any (places_set l.columns l.assigns) (noted_by l.index.noting)

abbrev pub decreases-loop-rest : goal.decreases-loop-rest
decreases-loop-rest l = length l.rest
