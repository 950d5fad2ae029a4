-- What a plan of a batch says of its pages, where its changes are those that were given.
use Rattle.std.specs.Prelude.{IfNone, IfSome, map}
use Rattle.std.proofs.Common.{◌≡◌, ◌≤◌, ℕ, List, Option, Some, None, subst}
use Rattle.ct_keep.specs.SeenChanges.{change_of}
use Rattle.ct_keep.specs.declared.batches.Change.{Change as OwnChange}
use Rattle.pg_map.specs.Kinds.{Kind}
use Rattle.pg_plan.specs.Drafts.{Drafted}
use Rattle.pg_plan.specs.Touched.{AreTouched}
use Rattle.pg_change.specs.Planning.{most_pages, HasFewPages, IsReadyToCommit}
use Rattle.pg_change.specs.declared.planning.PlannedBatch.{PlannedBatch}
use Rattle.pg_change.specs.declared.rebuilding.Rebuilt.{Rebuilt}

pub planned_few : (changes given : List OwnChange) (old now : Drafted) (homes : ℕ) (places : List ℕ) (found : Option PlannedBatch) (planned : PlannedBatch) → given ≡ changes
    → IfSome found (λ (p : PlannedBatch). HasFewPages old now homes (map change_of given) places) → found ≡ Some planned → HasFewPages old now homes (map change_of changes) places
planned_few changes given old now homes places found planned same few is = subst (λ (l : List OwnChange). HasFewPages old now homes (map change_of l) places) same
    (subst (λ (o : Option PlannedBatch). IfSome o (λ (p : PlannedBatch). HasFewPages old now homes (map change_of given) places)) is few)

pub planned_touched : (now : Drafted) (found : Option PlannedBatch) (planned : PlannedBatch) → IfSome found (λ (p : PlannedBatch). (new : Rebuilt) × IsReadyToCommit now new p) → found ≡ Some planned → AreTouched now planned.numbers
planned_touched now found planned ready is = (subst (λ (o : Option PlannedBatch). IfSome o (λ (p : PlannedBatch). (new : Rebuilt) × IsReadyToCommit now new p)) is ready).1.touched

pub planned_many : (changes given : List OwnChange) (kinds : List Kind) (homes : ℕ) (found : Option PlannedBatch) → given ≡ changes
    → IfNone found (2147483645 ≤ most_pages kinds homes (map change_of given)) → found ≡ None → 2147483645 ≤ most_pages kinds homes (map change_of changes)
planned_many changes given kinds homes found same many is = subst (λ (l : List OwnChange). 2147483645 ≤ most_pages kinds homes (map change_of l)) same
    (subst (λ (o : Option PlannedBatch). IfNone o (2147483645 ≤ most_pages kinds homes (map change_of given))) is many)
