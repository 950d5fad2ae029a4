use Rattle.std.proofs.Common.{◌≡◌, length}
use Rattle.pg_plan.specs.Drafts.{StaysAway}
use Rattle.pg_plan.specs.PlanSteps.{NoNewKey}
use Rattle.pg_plan.proofs.Planning.{PutsLong}
use Rattle.pg_plan.proofs.Stepping.{Lays}
use Rattle.pg_plan.specs.FreePlaces.{ListsFree}
use Rattle.pg_plan.proofs.plans.put_long.Given as goal

abbrev pub invariant-loop-left : goal.invariant-loop-left
invariant-loop-left l = record {
  before : l.draft.before ≡ l.initial.draft.before;
  puts : PutsLong l.initial.draft.now l.draft.now l.value l.first l.left;
  lays : Lays l.initial.draft l.draft (length l.value) l.left;
  kept : l.hints.free.before ≡ l.initial.hints.free.before;
  listed : ListsFree l.draft.now l.hints.free.now;
  keys : NoNewKey l.initial.draft.now l.draft.now;
  stays : StaysAway l.initial.draft l.draft;
}

abbrev pub decreases-loop-left : goal.decreases-loop-left
decreases-loop-left l = l.left
