use Rattle.std.proofs.Common.{◌∙◌, arith}
use Rattle.pg_heap.proofs.DirectStores.{homes_told}
use Rattle.pg_heap.proofs.directing.commit_directory.Goals as goal

pub returns-clause-homes : goal.returns-clause-homes
returns-clause-homes g c = c.in-Ok.ensures.homes ∙ homes_told c.args.journal.now c.args.homes c.args.made.now (omega (arith, c.ranges.homes))
