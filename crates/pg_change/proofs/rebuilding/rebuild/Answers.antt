use Rattle.std.proofs.Common.{◌++◌, ℕ, List, [], length, ap, subst, arith}
use Rattle.std.proofs.lemmas.Result.{on_ok_weaker}
use Rattle.pg_change.specs.Rebuilding.{AreAway, GoesTo}
use Rattle.pg_change.proofs.Directories.{length-placed, needs_all, rebuilds_or}
use Rattle.pg_change.proofs.rebuilding.rebuild.Goals as goal

pub returns-clause-needs : goal.returns-clause-needs
returns-clause-needs c = λ memory.
    needs_all c.args.draft.now.now c.give_numbers.new.draft.now c.take_leaves.new.draft.now c.raise.new.draft.now _ _ _ (length-placed c.args.relisted.leaves.items c.in-Ok-take_leaves.placed c.in-Ok-take_leaves.ensures.placed)
    c.in-Ok.ensures.needs c.take_leaves.ensures.needs (c.raise.ensures.needs memory)

pub returns-clause-pages : goal.returns-clause-pages
returns-clause-pages c = λ are pages.
    let first = subst (λ (l : List ℕ). (ms : List ℕ) → AreAway c.args.draft.now (l ++ ms) → GoesTo c.args.draft.now c.give_numbers.new.draft (l ++ ms) ms []) c.deref.ensures.value c.in-Ok.ensures.goes in
    rebuilds_or c.args.draft.now c.give_numbers.new.draft c.take_leaves.new.draft c.raise.new.draft c.args.top c.args.old.now c.args.relisted.leaves.items c.args.relisted.gone.items c.in-Ok-take_leaves.placed c.raise.result
    are pages c.in-Ok-take_leaves.ensures.placed c.raise.ensures.raised first c.in-Ok-take_leaves.ensures.goes c.raise.ensures.goes

pub returns-clause-listed : goal.returns-clause-listed
returns-clause-listed c = on_ok_weaker c.raise.result (λ plan. plan.listed) c.raise.ensures.plan

pub returns-clause-done : goal.returns-clause-done
returns-clause-done c = λ m was. on_ok_weaker c.raise.result (λ plan. plan.done m (c.in-Ok-take_leaves.ensures.plan.done m (c.in-Ok.ensures.plan.done m was))) c.raise.ensures.plan

pub returns-clause-touches : goal.returns-clause-touches
returns-clause-touches c =
    let same = ap (λ (l : List ℕ). length l) c.deref.ensures.value in
    let long = length-placed c.args.relisted.leaves.items c.in-Ok-take_leaves.placed c.in-Ok-take_leaves.ensures.placed in
    let first = c.in-Ok.ensures.plan.touches in
    let second = c.in-Ok-take_leaves.ensures.plan.touches in
    on_ok_weaker c.raise.result (λ plan. let third = plan.touches in omega (arith, same, long, first, second, third)) c.raise.ensures.plan
