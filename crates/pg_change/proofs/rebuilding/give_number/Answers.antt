use Rattle.std.proofs.Common.{◌-◌, arith}
use Rattle.pg_map.specs.laws.Loose.{times_here}
use Rattle.pg_change.specs.laws.DirectorySteps.{gives_one}
use Rattle.pg_change.proofs.Directories.{plans_given}
use Rattle.pg_change.proofs.rebuilding.give_number.Goals as goal

pub returns-clause-plan : goal.returns-clause-plan
returns-clause-plan c = plans_given c.args.draft.now c.give_page.new.draft c.give_page.new.hints.free (c.args.number - 3) c.in-Ok.ensures.listed c.in-Ok.ensures.done c.in-Ok.ensures.given.touched

pub returns-clause-goes : goal.returns-clause-goes
returns-clause-goes c = λ ms are.
    let low = (are.each c.args.number (let e = times_here c.args.number ms in omega (arith, e))).0 in
    gives_one c.args.draft.now c.give_page.new.draft c.args.number ms low are c.in-Ok.ensures.given
