use Rattle.std.proofs.Common.{◌≡◌, map}
use Rattle.ct_keep.specs.Content.{Content}
use Rattle.ct_keep.specs.SeenChanges.{change_of}
use Rattle.pg_map.specs.Done.{IsDone}
use Rattle.pg_plan.specs.Changes.{StandAt}
use Rattle.pg_plan.specs.Drafts.{StaysAway}
use Rattle.pg_plan.specs.FreePlaces.{ListsFree}
use Rattle.pg_plan.proofs.AllChanges.{MakesFirst, NeedsAlong}
use Rattle.pg_plan.proofs.changes.do_changes.Given as goal

abbrev pub invariant-loop-i : goal.invariant-loop-i
invariant-loop-i l = record {
  before : l.draft.before ≡ l.initial.draft.before;
  made : (m : Content) → IsDone l.initial.draft.now m → StandAt l.initial.draft.now (map change_of l.changes) l.places → MakesFirst l.initial.draft l.draft l.changes l.places m l.i;
  needs : NeedsAlong l.initial.draft.now l.draft.now l.changes l.i;
  kept : l.hints.free.before ≡ l.initial.hints.free.before;
  listed : ListsFree l.draft.now l.hints.free.now;
  stays : StaysAway l.initial.draft l.draft;
}
