use Rattle.std.proofs.Common.{rules, refl, subst, ◌∙◌, ◌≡◌, ◌<◌, ◌+◌, List, None, get_or, length, take, map, arith}
use Rattle.std.specs.FinMap.{get}
use Rattle.ct_keep.specs.Content.{after}
use Rattle.ct_keep.specs.declared.batches.Change as rust
use Rattle.ct_keep.specs.SeenChanges.{change_of}
use Rattle.pg_plan.specs.Planned.{HasNone}
use Rattle.pg_plan.specs.PlanSteps.{MakesChanges}
use Rattle.pg_plan.specs.laws.Away.{stays_same, stays_then}
use Rattle.pg_plan.proofs.Changing.{well_at, take_whole}
use Rattle.pg_plan.proofs.AllChanges.{first_none, first_known, first_more, along_none, along_more, along_all}
use Rattle.pg_plan.proofs.changes.do_changes.Goals as goal

pub do_change-requires : goal.do_change-requires
do_change-requires c = record { listed = c.loop-i.invariant.listed; value = well_at c.args.changes.now c.loop-i.i c.index-changes-i.result c.requires.well (search rules) c.index-changes-i.is }

pub loop-i-init : goal.loop-i-init
loop-i-init c = record {
  before = refl;
  made = λ m done stand. first_none c.args.draft.now c.args.changes.now c.args.places.now m done stand;
  needs = along_none c.args.draft.now.now c.args.changes.now;
  kept = refl;
  listed = c.requires.listed;
  stays = stays_same c.args.draft.now c.args.draft.now refl;
}

pub loop-i-preserved : goal.loop-i-preserved
loop-i-preserved c =
    let w = c.index-changes-i.result in
    let less : c.loop-i.i < length c.args.changes.now = search rules in
    record {
      before = c.do_change.ensures.before ∙ c.loop-i.invariant.before;
      made = λ m done stand.
          let so_far = c.loop-i.invariant.made m done stand in
          let known : HasNone c.loop-i.draft.now (get_or c.args.places.now c.loop-i.i 0) w.key.items → get (after (map change_of (take c.loop-i.i c.args.changes.now)) m) w.key.items ≡ None = λ none. first_known c.args.draft.now c.loop-i.draft c.args.changes.now c.args.places.now m c.loop-i.i w so_far less c.index-changes-i.is none in
          first_more c.args.draft.now c.loop-i.draft c.do_change.new.draft c.args.changes.now c.args.places.now m c.loop-i.i w c.in_ok-do_change.field-0 c.requires.apart so_far less c.index-changes-i.is (c.in_ok-do_change.ensures.done _ so_far.made.done known)
          (c.do_change.ensures.touches _ so_far.made.done);
      needs = along_more c.args.draft.now.now c.loop-i.draft.now c.do_change.new.draft.now c.args.changes.now c.loop-i.i w c.loop-i.invariant.needs less c.index-changes-i.is c.do_change.ensures.needs;
      kept = c.do_change.ensures.kept ∙ c.loop-i.invariant.kept;
      listed = c.in_ok-do_change.ensures.listed;
      stays = stays_then c.args.draft.now c.loop-i.draft c.do_change.new.draft c.loop-i.invariant.stays c.in_ok-do_change.ensures.stays;
    }

pub returns-clause-needs : goal.returns-clause-needs
returns-clause-needs c = along_all c.args.draft.now.now c.loop-i.draft.now c.args.changes.now c.loop-i.i c.loop-i.invariant.needs

pub returns-in_err-do_change-clause-needs : goal.returns-in_err-do_change-clause-needs
returns-in_err-do_change-clause-needs c =
    along_all c.args.draft.now.now c.do_change.new.draft.now c.args.changes.now (c.loop-i.i + 1) (along_more c.args.draft.now.now c.loop-i.draft.now c.do_change.new.draft.now c.args.changes.now c.loop-i.i c.index-changes-i.result c.loop-i.invariant.needs (search rules) c.index-changes-i.is c.do_change.ensures.needs)

pub returns-clause-done : goal.returns-clause-done
returns-clause-done c = λ m done stand.
    subst (λ (l : List rust.Change). MakesChanges c.args.draft.now c.loop-i.draft (map change_of l) m) (take_whole c.args.changes.now c.loop-i.i (omega (arith, c.loop-i-test.false))) (c.loop-i.invariant.made m done stand).made
