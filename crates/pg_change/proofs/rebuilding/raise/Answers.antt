use Rattle.std.proofs.Common.{◌++◌, ℕ, List, [], length, subst}
use Rattle.std.proofs.lemmas.Result.{on_ok_weaker}
use Rattle.pg_change.specs.Rebuilding.{AreAway, PlansOn, GoesTo}
use Rattle.pg_change.proofs.Directories.{plans_then, above_built}
use Rattle.pg_change.proofs.rebuilding.raise.Goals as goal

pub returns-clause-goes : goal.returns-clause-goes
returns-clause-goes c =
    let first = subst (λ (l : List ℕ). (ms : List ℕ) → AreAway c.args.draft.now (l ++ ms) → GoesTo c.args.draft.now c.give_numbers.new.draft (l ++ ms) ms []) c.deref-3.ensures.value c.in-Ok-give_numbers.ensures.goes in
    above_built c.args.draft.now c.give_numbers.new.draft c.build_above.new.draft c.args.old.now.inner.items c.build_above.result first c.build_above.ensures.goes

pub returns-clause-plan : goal.returns-clause-plan
returns-clause-plan c =
    let first = subst (λ (l : List ℕ). PlansOn c.args.draft.now c.give_numbers.new.draft c.give_numbers.new.hints.free (length l)) c.deref-3.ensures.value c.in-Ok-give_numbers.ensures.plan in
    on_ok_weaker c.build_above.result
    (λ then_. plans_then c.args.draft.now c.give_numbers.new.draft c.build_above.new.draft c.give_numbers.new.hints.free c.build_above.new.hints.free (length c.args.old.now.inner.items) (length c.args.placed.children.items) first then_)
    c.build_above.ensures.plan
