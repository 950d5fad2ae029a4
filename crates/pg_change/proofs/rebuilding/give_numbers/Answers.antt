use Rattle.std.proofs.Common.{rules, ◌<◌, length}
use Rattle.pg_change.proofs.Directories.{plans_more, given_more}
use Rattle.pg_change.proofs.rebuilding.give_numbers.Goals as goal

pub loop-i-preserved : goal.loop-i-preserved
loop-i-preserved c =
    let less : c.loop-i.i < length c.args.numbers.now = search rules in
    given_more c.args.draft.now c.loop-i.draft c.give_number.new.draft c.args.hints.now.free c.loop-i.hints.free c.give_number.new.hints.free c.args.numbers.now c.loop-i.i less c.loop-i.invariant
    c.give_number.ensures.before c.give_number.ensures.kept c.in-Ok.ensures.plan c.in-Ok.ensures.needs c.in-Ok.ensures.goes

pub returns-clause-plan : goal.returns-clause-plan
returns-clause-plan c = plans_more c.args.draft.now c.loop-i.draft c.loop-i.hints.free c.loop-i.i (length c.args.numbers.now) (search rules) c.loop-i.invariant.plan
