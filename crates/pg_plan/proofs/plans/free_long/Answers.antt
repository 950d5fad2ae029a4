use Rattle.std.proofs.Common.{rules, arith, ap, refl, sym, subst, ◌≡◌, ◌≤◌, ◌+◌, ◌∙◌, length}
use Rattle.pg_batch.specs.BatchPages.{long_pages}
use Rattle.pg_plan.specs.Drafts.{Drafted}
use Rattle.pg_plan.specs.Planned.{IsLongAt}
use Rattle.pg_plan.specs.FreePlaces.{used_pages}
use Rattle.pg_plan.specs.laws.Freeing.{used_over, given_more}
use Rattle.pg_map.specs.Kinds.{Free}
use Rattle.pg_plan.specs.laws.Away.{here_long, stays_same, stays_then}
use Rattle.pg_plan.proofs.Planning.{frees_none, frees_more, frees_all, frees_stuck}
use Rattle.pg_plan.proofs.Stepping.{no_new_same, no_new_then, no_new_free, long_full, same_count, touched_none, touched_more, touched_all}
use Rattle.pg_plan.proofs.plans.free_long.Goals as goal

pub loop-left-init : goal.loop-left-init
loop-left-init c = record {
  before = refl;
  frees = frees_none c.args.draft.now.now c.args.first c.args.count;
  pages = refl;
  touches = touched_none c.args.draft.now.now c.args.first c.args.count (length c.args.draft.now.touched);
  used = omega arith;
  kept = refl;
  listed = c.requires.listed;
  keys = no_new_same c.args.draft.now.now;
  stays = stays_same c.args.draft.now c.args.draft.now refl;
}

pub returns-in_default-clause-freed : goal.returns-in_default-clause-freed
returns-in_default-clause-freed c = λ m value chain long.
    absurd (frees_stuck c.args.draft.now.now c.loop-left.draft.now c.args.first c.args.count c.loop-left.first c.loop-left.left m value c.loop-left.invariant.frees (omega (arith, c.loop-left-test.true)) (c.in_default.ensures.none refl) chain long)

pub loop-left-preserved : goal.loop-left-preserved
loop-left-preserved c = record {
  before = ap (λ (d : Drafted). d.before) c.in-Ok-set.ensures.ok ∙ c.loop-left.invariant.before;
  frees = frees_more c.args.draft.now.now c.loop-left.draft.now c.set.new.self.now c.args.first c.args.count c.loop-left.first c.in-Some.next c.loop-left.left c.in-Some.used c.saturating_sub-left.result c.loop-left.invariant.frees (search rules)
      (ap (λ (d : Drafted). d.now) c.in-Ok-set.ensures.ok) c.saturating_sub-left.ensures;
  pages = same_count c.loop-left.draft.now c.set.new.self.now _ (ap (λ (d : Drafted). d.now) c.in-Ok-set.ensures.ok) ∙ c.loop-left.invariant.pages;
  touches = touched_more c.args.draft.now.now c.loop-left.draft.now c.args.first c.args.count c.loop-left.first c.in-Some.next c.loop-left.left c.in-Some.used c.saturating_sub-left.result (length c.args.draft.now.touched) c.loop-left.draft.touched c.set.new.self.touched _
      c.loop-left.invariant.touches c.loop-left.invariant.frees (search rules) c.saturating_sub-left.ensures (ap (λ (d : Drafted). d.touched) c.in-Ok-set.ensures.ok);
  used =
      let l : IsLongAt c.loop-left.draft.now c.loop-left.first c.in-Some.next c.in-Some.used = search rules in
      let full = long_full c.loop-left.draft.now _ c.in-Some.next l.bytes l.kind in
      let now = ap used_pages (ap (λ (d : Drafted). d.now) c.in-Ok-set.ensures.ok) in
      let less = used_over c.loop-left.draft.now _ Free full in
      let so_far = c.loop-left.invariant.used in
      omega (arith, now, less, so_far);
  kept = c.add.ensures.before ∙ c.loop-left.invariant.kept;
  listed =
      let l : IsLongAt c.loop-left.draft.now c.loop-left.first c.in-Some.next c.in-Some.used = search rules in
      given_more c.loop-left.draft.now c.set.new.self.now c.loop-left.hints.free.now c.add.new.self.now _ c.loop-left.invariant.listed l.within (long_full c.loop-left.draft.now _ c.in-Some.next l.bytes l.kind) (ap (λ (d : Drafted). d.now) c.in-Ok-set.ensures.ok) c.in-Ok.ensures.ok;
  keys = no_new_then c.args.draft.now.now c.loop-left.draft.now c.set.new.self.now c.loop-left.invariant.keys (no_new_free c.loop-left.draft.now c.set.new.self.now _ (ap (λ (d : Drafted). d.now) c.in-Ok-set.ensures.ok));
  stays =
      let l : IsLongAt c.loop-left.draft.now c.loop-left.first c.in-Some.next c.in-Some.used = search rules in
      stays_then c.args.draft.now c.loop-left.draft c.set.new.self c.loop-left.invariant.stays (c.in-Ok-set.ensures.stays (here_long c.loop-left.draft _ c.in-Some.next l.bytes l.kind) refl);
}

pub returns-clause-freed : goal.returns-clause-freed
returns-clause-freed c = λ m value chain long.
    frees_all c.args.draft.now.now c.loop-left.draft.now c.args.first c.args.count c.loop-left.first c.loop-left.left m value c.loop-left.invariant.frees (omega (arith, c.loop-left-test.false)) chain long

pub returns-clause-touches : goal.returns-clause-touches
returns-clause-touches c = λ m value chain long. touched_all c.args.draft.now.now c.args.first c.args.count (length c.args.draft.now.touched) (length c.loop-left.draft.touched) c.loop-left.left m value c.loop-left.invariant.touches chain long

pub returns-in_default-clause-touches : goal.returns-in_default-clause-touches
returns-in_default-clause-touches c = λ m value chain long. touched_all c.args.draft.now.now c.args.first c.args.count (length c.args.draft.now.touched) (length c.loop-left.draft.touched) c.loop-left.left m value c.loop-left.invariant.touches chain long

pub returns-clause-keys : goal.returns-clause-keys
returns-clause-keys c = c.loop-left.invariant.keys

pub returns-clause-stays : goal.returns-clause-stays
returns-clause-stays c = c.loop-left.invariant.stays

pub returns-in_default-clause-stays : goal.returns-in_default-clause-stays
returns-in_default-clause-stays c = c.loop-left.invariant.stays

pub returns-clause-pages : goal.returns-clause-pages
returns-clause-pages c = c.loop-left.invariant.pages

pub returns-in_default-set-clause-touches : goal.returns-in_default-set-clause-touches
returns-in_default-set-clause-touches c = λ m value chain long.
    let same : c.set.new.self ≡ c.loop-left.draft = search rules in
    subst (λ (d : Drafted). length d.touched ≤ length c.args.draft.now.touched + long_pages c.args.count) (sym same)
    (touched_all c.args.draft.now.now c.args.first c.args.count (length c.args.draft.now.touched) (length c.loop-left.draft.touched) c.loop-left.left m value c.loop-left.invariant.touches chain long)

pub returns-in_default-add-clause-touches : goal.returns-in_default-add-clause-touches
returns-in_default-add-clause-touches c = λ m value chain long. touched_all c.args.draft.now.now c.args.first c.args.count (length c.args.draft.now.touched) (length c.loop-left.draft.touched) c.loop-left.left m value c.loop-left.invariant.touches chain long
