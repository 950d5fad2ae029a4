use Rattle.std.proofs.Common.{◌≡◌, ◌≤◌, length}
use Rattle.pg_plan.specs.Drafts.{StaysAway}
use Rattle.pg_plan.specs.PlanSteps.{NoNewKey}
use Rattle.pg_plan.proofs.Planning.{FreesLong}
use Rattle.pg_plan.proofs.Stepping.{FreesTouches}
use Rattle.pg_plan.specs.FreePlaces.{ListsFree, used_pages}
use Rattle.pg_plan.proofs.plans.free_long.Given as goal

abbrev pub invariant-loop-left : goal.invariant-loop-left
invariant-loop-left l = record {
  before : l.draft.before ≡ l.initial.draft.before;
  frees : FreesLong l.initial.draft.now l.fn.first l.fn.count l.draft.now l.first l.left;
  pages : length l.draft.now ≡ length l.initial.draft.now;
  touches : FreesTouches l.initial.draft.now l.fn.first l.fn.count (length l.initial.draft.touched) (length l.draft.touched) l.left;
  used : used_pages l.draft.now ≤ used_pages l.initial.draft.now;
  kept : l.hints.free.before ≡ l.initial.hints.free.before;
  listed : ListsFree l.draft.now l.hints.free.now;
  keys : NoNewKey l.initial.draft.now l.draft.now;
  stays : StaysAway l.initial.draft l.draft;
}

abbrev pub decreases-loop-left : goal.decreases-loop-left
decreases-loop-left l = l.left
