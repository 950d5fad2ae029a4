use Rattle.std.proofs.Common.{arith}
use Rattle.std.proofs.lemmas.List.Elements.{Contains-get_or}
use Rattle.pg_change.proofs.batch_commits.may_stand.Goals as goal

pub overflow_sub-numbers : goal.overflow_sub-numbers
overflow_sub-numbers c = (c.requires _ (Contains-get_or c.args.numbers.now c.loop-i.i 0 c.loop-i-test.true)).0

pub sheet-requires : goal.sheet-requires
sheet-requires c = let w = c.requires _ (Contains-get_or c.args.numbers.now c.loop-i.i 0 c.loop-i-test.true) in omega (arith, w.0, w.1)
