use Rattle.std.specs.Prelude.{map}
use Rattle.std.proofs.Common.{◌≤◌, ◌++◌, All, List, length, sym, ap, subst, ◌∙◌, arith}
use Rattle.std.proofs.lemmas.List.{length-map, map-append}
use Rattle.pg_directory.specs.declared.building.InnerPage.{InnerPage}
use Rattle.pg_directory.specs.declared.entries.Child.{Child}
use Rattle.pg_directory.specs.Building.{above_of, child_of, numbers_of}
use Rattle.pg_directory.proofs.Layers.{some_named, fewer_above, level_next}
use Rattle.pg_directory.proofs.layering.build_levels.Goals as goal

pub children_of-requires : goal.children_of-requires
children_of-requires c =
    subst (λ (ps : List InnerPage). All (λ (p : InnerPage). 1 ≤ length p.children.items) ps) (sym c.deref-in-loop-alloc-2.ensures.value)
    (some_named _ c.in_ok-above.above.items c.in_ok-above.ensures.of_level)

pub loop-alloc-smaller : goal.loop-alloc-smaller
loop-alloc-smaller c =
    let same = ap (λ (l : List Child). length l) c.deref.ensures.value in
    let less = fewer_above _ c.deref.result.now _ (map above_of c.in_ok-above.above.items) c.in_ok-below-2.below.items (omega (arith, c.loop-alloc-test.true, c.len.ensures, same)) c.in_ok-above.ensures
    (c.in_ok-below-2.ensures ∙ ap (λ (ps : List InnerPage). map child_of (map above_of ps)) c.deref-in-loop-alloc-2.ensures.value) in
    omega (arith, less, same)

pub loop-alloc-preserved : goal.loop-alloc-preserved
loop-alloc-preserved c =
    level_next c.args.leaves.now c.args.numbers.now c.loop-alloc.level c.loop-alloc.below.items c.deref.result.now c.in_ok-below-2.below.items (map above_of c.loop-alloc.pages.items)
    (map above_of c.append.new.self.items) (map above_of c.in_ok-above.above.items) c.loop-alloc.inner.items c.in_ok-inner.inner.items c.len-in-loop-alloc.result
    (omega (arith, c.loop-alloc-test.true, c.len.ensures)) c.requires.numbers c.loop-alloc.invariant c.deref.ensures.value
    (omega (arith, c.len-in-loop-alloc.ensures, length-map c.loop-alloc.pages.items above_of)) c.in_ok-above.ensures
    (c.in_ok-below-2.ensures ∙ ap (λ (ps : List InnerPage). map child_of (map above_of ps)) c.deref-in-loop-alloc-2.ensures.value)
    (ap (λ (ps : List InnerPage). map above_of ps) c.in_ok-append.ensures.items ∙ map-append above_of c.loop-alloc.pages.items c.in_ok-above.above.items)
    (c.in_ok-inner.ensures ∙ ap (λ (ps : List InnerPage). numbers_of (map above_of ps) ++ c.loop-alloc.inner.items) c.deref-in-loop-alloc.ensures.value)
