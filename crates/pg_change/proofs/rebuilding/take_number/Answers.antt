use Rattle.pg_change.specs.laws.DirectorySteps.{takes_one}
use Rattle.pg_change.proofs.rebuilding.take_number.Goals as goal

pub returns-clause-goes : goal.returns-clause-goes
returns-clause-goes c = λ ns are. takes_one c.args.draft.now c.take_page.new.draft c.in_ok-at.at ns c.keep_shape.ensures.sees are c.in_ok-at.ensures.taken c.in_ok-at.ensures.touched
