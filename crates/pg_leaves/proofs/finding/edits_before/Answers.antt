use Rattle.std.proofs.Common.{Option, Bool, Some, sym, subst, ap, ◌∙◌, arith, refl}
use Rattle.ct_site.specs.Disks.{works_then}
use Rattle.ct_site.specs.laws.Calls.{same_then, works_as}
use Rattle.pg_leaves.specs.declared.edits.Edit.{Edit}
use Rattle.pg_leaves.specs.Finding.{IsBeforeOr}
use Rattle.pg_leaves.proofs.Calls.{holds_still}
use Rattle.pg_leaves.proofs.Findings.{one_more_before, parted_here, all_before}
use Rattle.pg_leaves.proofs.finding.edits_before.Goals as goal

pub returns-then-not-is_before-clause-parted : goal.returns-then-not-is_before-clause-parted
returns-then-not-is_before-clause-parted g c = λ top pages holds strings.
    let u = c.index-edits-i.result in
    parted_here pages c.args.entries.now c.args.edits.now c.loop-i.i u c.deref.result.now c.loop-i-test.true c.index-edits-i.is (c.deref.ensures.value ∙ ap (λ (v : Edit). v.key.items) (sym c.index-edits-i.is)) (c.loop-i.invariant.before top pages holds strings)
    (subst (λ (o : Option Bool). IsBeforeOr o pages c.args.entries.now c.deref.result.now) (c.in-Some.is ∙ ap Some c.if-not-is_before.true)
    (c.in_ok-is_before.ensures.before top pages (holds_still _ _ _ _ pages c.loop-i.invariant.same holds) strings))

pub loop-i-preserved : goal.loop-i-preserved
loop-i-preserved g c = record {
  cache = c.is_before.ensures.cache;
  same = same_then _ _ _ c.loop-i.invariant.same c.is_before.ensures.same;
  works = works_as _ _ _ tt (works_then _ _ _ _ _ c.loop-i.invariant.works c.in_ok-is_before.ensures.works);
  before = λ top pages holds strings.
      let u = c.index-edits-i.result in
      one_more_before pages c.args.entries.now c.args.edits.now c.loop-i.i u c.deref.result.now c.loop-i-test.true c.index-edits-i.is (c.deref.ensures.value ∙ ap (λ (v : Edit). v.key.items) (sym c.index-edits-i.is)) (c.loop-i.invariant.before top pages holds strings)
      (subst (λ (o : Option Bool). IsBeforeOr o pages c.args.entries.now c.deref.result.now) (c.in-Some.is ∙ ap Some c.if-not-is_before.false)
      (c.in_ok-is_before.ensures.before top pages (holds_still _ _ _ _ pages c.loop-i.invariant.same holds) strings));
}

pub returns-clause-parted : goal.returns-clause-parted
returns-clause-parted g c = λ top pages holds strings. all_before pages c.args.entries.now c.args.edits.now c.loop-i.i _ refl (omega (arith, c.loop-i-test.false)) (c.loop-i.invariant.before top pages holds strings)
