use Rattle.std.specs.Prelude.{map}
use Rattle.std.proofs.Common.{ℕ, List, length, subst, arith}
use Rattle.std.proofs.lemmas.List.{length-map}
use Rattle.pg_directory.specs.Building.{above_of}
use Rattle.pg_directory.specs.Layering.{BuildsLevels}
use Rattle.pg_change.proofs.Directories.{plans_more, above_taken}
use Rattle.pg_change.proofs.rebuilding.build_above.Goals as goal

pub returns-clause-goes : goal.returns-clause-goes
returns-clause-goes c =
    let up = c.in-Ok-build_levels.upper in
    let builds = subst (λ (ns : List ℕ). BuildsLevels c.deref.result.now ns (map above_of up.pages.items) up.inner.items up.top) c.deref-2.ensures.value c.in-Ok-build_levels.ensures in
    above_taken c.args.draft.now c.take_numbers.new.draft c.deref.result.now c.in-Ok.numbers.items c.pad.new.numbers.items (map above_of up.pages.items) up.inner.items up.top builds c.in-Ok-pad.ensures.first
    (omega (arith, length-map up.pages.items above_of, c.if-len-count.false, c.len.ensures, c.in-Ok.ensures.count)) c.in-Ok.ensures.goes

pub returns-clause-plan : goal.returns-clause-plan
returns-clause-plan c =
    plans_more c.args.draft.now c.take_numbers.new.draft c.take_numbers.new.hints.free c.upper_count-count.result (length c.args.placed.children.items)
    (let few = c.upper_count-count.ensures.few (omega (arith, c.requires.some, c.len-leaves.ensures)) in omega (arith, few, c.len-leaves.ensures)) c.in-Ok.ensures.plan
