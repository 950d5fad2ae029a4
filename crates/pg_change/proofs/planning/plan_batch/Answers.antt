use Rattle.std.specs.Prelude.{map}
use Rattle.std.proofs.Common.{◌≤◌, List, length, refl, sym, ap, subst, ◌∙◌, arith}
use Rattle.std.proofs.lemmas.List.{length-map}
use Rattle.ct_keep.specs.SeenChanges.{change_of}
use Rattle.pg_map.specs.Done.{IsDone}
use Rattle.pg_map.specs.Kinds.{Kind}
use Rattle.pg_directory.specs.declared.entries.Child.{Child}
use Rattle.pg_leaves.specs.Relisting.{ArePagesOfLeaves}
use Rattle.pg_plan.specs.Changes.{StandAt}
use Rattle.pg_plan.specs.Drafts.{Shown}
use Rattle.pg_change.specs.Planning.{HasFewPages, IsPlanned, IsReadyToCommit}
use Rattle.pg_change.specs.laws.Batches.{store_after, free_after}
use Rattle.pg_change.proofs.DiskReads.{holds_still}
use Rattle.pg_change.proofs.Plans.{each_found, few_pages, relisted_is, some_found}
use Rattle.pg_change.proofs.planning.plan_batch.Goals as goal

pub returns-in-Ok-rebuilt-clause-ready : goal.returns-in-Ok-rebuilt-clause-ready
returns-in-Ok-rebuilt-clause-ready g c = each_found c.plan_commit.result _ _ (λ planned is. (_, is)) c.plan_commit.ensures.ready

pub returns-in-Ok-rebuilt-clause-planned : goal.returns-in-Ok-rebuilt-clause-planned
returns-in-Ok-rebuilt-clause-planned g c = λ pages m part es holds store rise begun.
    let began = c.args.draft.now in
    let entries = c.plan_entries.new.draft in
    let done = c.rebuild-rebuilt.new.draft in
    let new = c.in-Ok-rebuilt.rebuilt in
    let old = c.args.old.now in
    let ws = map change_of c.args.changes.now in
    let edits = c.in-Ok-Some.edits.items in
    let relisted = c.in-Ok.relisted in
    let plans = some_found c.in-Ok-Some.field-0 c.in-Ok-Some.edits _ (c.in-Ok-Some.ensures.plans c.args.top pages part holds (subst (λ (ks : List Kind). IsDone ks part) (sym begun.now) begun.holds)
    (subst (λ (ks : List Kind). StandAt ks ws c.args.places.now) (sym begun.now) begun.stand)) c.in-Ok-Some.field-0-is in
    let stays = some_found c.in-Ok-Some.field-0 c.in-Ok-Some.edits _ c.in-Ok-Some.ensures.stays c.in-Ok-Some.field-0-is in
    let relists = relisted_is (g.D.Disk.disk c.plan_entries.new.disk) c.args.journal.now c.args.top pages es c.deref.result.now old.leaves.items c.deref-2.result.now edits relisted c.deref.ensures.value c.deref-2.ensures.value
    c.in-Ok.ensures.leaves (holds_still _ _ _ _ pages c.plan_entries.ensures.same holds) store.leaves store.lists.strings store.lists.order plans.are.rise in
    let own = subst (λ (cs : List Child). ArePagesOfLeaves cs relisted.leaves.items relisted.gone.items) c.deref.ensures.value c.in-Ok.ensures.pages in
    let same = c.plan_entries.ensures.before in
    let same_end = c.rebuild-rebuilt.ensures.before ∙ same in
    let grew : length began.before.kinds ≤ length entries.now = (let k = c.keep_shape-2.ensures.grown in let e = ap (λ (s : Shown). length s.kinds) same in omega (arith, k, e)) in
    let grown : length began.before.kinds ≤ length done.now = (let k = c.keep_shape-3.ensures.grown in let e = ap (λ (s : Shown). length s.kinds) same_end in omega (arith, k, e)) in
    each_found c.plan_commit.result (IsReadyToCommit done new) (IsPlanned pages m ws done c.rebuild-rebuilt.new.hints.free.now) (λ planned is. record {
      new = new;
      top = is.top;
      directory = is.directory;
      store = store_after pages m part ws c.args.top old es edits relisted began entries done new planned.images planned.numbers store begun.window begun.holds rise begun.shown begun.now begun.away begun.untouched c.keep_shape.ensures.sees c.keep_shape-2.ensures.sees
          stays plans same relists c.in-Ok-rebuilt.ensures.rebuilt (λ away. c.in-Ok-rebuilt.ensures.pages away own) same_end c.in-Ok-rebuilt.ensures.done is.same is.good is.touched grew grown;
      listed = free_after pages m part ws c.args.top old es edits relisted began entries done new planned.images planned.numbers store begun.window begun.holds rise begun.shown begun.now begun.away begun.untouched c.keep_shape.ensures.sees c.keep_shape-2.ensures.sees
          stays plans same relists c.in-Ok-rebuilt.ensures.rebuilt (λ away. c.in-Ok-rebuilt.ensures.pages away own) same_end c.in-Ok-rebuilt.ensures.done is.same is.good is.touched grew grown c.rebuild-rebuilt.new.hints.free.now c.in-Ok-rebuilt.ensures.listed;
    }) c.plan_commit.ensures.ready

pub returns-in-Ok-rebuilt-clause-few : goal.returns-in-Ok-rebuilt-clause-few
returns-in-Ok-rebuilt-clause-few g c =
    let began = c.args.draft.now in
    let entries = c.plan_entries.new.draft in
    let done = c.rebuild-rebuilt.new.draft in
    let homes = c.args.journal.now in
    let changes = c.args.changes.now in
    let ws = map change_of changes in
    let few : HasFewPages began done homes ws c.args.places.now =
    few_pages began entries done c.count-count.result c.noted-noted.result c.homes.result homes (length changes) ws c.args.places.now
    c.count-count.ensures c.noted-noted.ensures c.homes.ensures.homes (sym (length-map changes change_of))
    c.plan_entries.ensures.needs (λ m holds stand. (some_found c.in-Ok-Some.field-0 c.in-Ok-Some.edits _ (c.in-Ok-Some.ensures.makes m holds stand) c.in-Ok-Some.field-0-is).touches) (c.if-not-needs_few.ensures.yes refl) in
    each_found c.plan_commit.result _ _ (λ planned is. few) c.plan_commit.ensures.ready
