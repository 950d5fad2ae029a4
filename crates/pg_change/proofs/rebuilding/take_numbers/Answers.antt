use Rattle.std.proofs.Common.{rules, List, ℕ, ◌+◌, subst, sym}
use Rattle.pg_change.proofs.Directories.{HasTaken, plans_more, taken_more}
use Rattle.pg_change.proofs.rebuilding.take_numbers.Goals as goal

pub loop-preserved : goal.loop-preserved
loop-preserved c =
    subst (λ (l : List ℕ). HasTaken c.args.draft.now c.take_number.new.draft c.args.hints.now.free c.take_number.new.hints.free l (c.loop.counter + 1)) (sym c.in-Ok-push.ensures.items)
    (taken_more c.args.draft.now c.loop.draft c.take_number.new.draft c.args.hints.now.free c.loop.hints.free c.take_number.new.hints.free c.loop.numbers.items c.loop.counter c.in-Ok.number c.loop.invariant
    c.take_number.ensures.before c.take_number.ensures.kept c.in-Ok.ensures.plan c.take_number.ensures.needs c.in-Ok.ensures.goes)

pub returns-clause-plan : goal.returns-clause-plan
returns-clause-plan c = plans_more c.args.draft.now c.loop.draft c.loop.hints.free c.loop.counter c.args.count (search rules) c.loop.invariant.plan
