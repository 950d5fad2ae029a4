use Rattle.std.proofs.Common.{arith}
use Rattle.pg_directory.proofs.DirectoryOpens.{strings_counted, all_strings_counted}
use Rattle.pg_directory.proofs.directories.string_count.Goals as goal

pub loop-i-preserved : goal.loop-i-preserved
loop-i-preserved c = record {
  small = let a = c.loop-i.invariant.small in let b = c.strings_noted-count.ensures.small in omega (arith, a, b);
  is = λ pages are. strings_counted pages c.args.notes.now c.loop-i.i c.loop-i.count c.strings_noted-count.result _ are c.loop-i-test.true c.strings_noted-count.ensures.is (c.loop-i.invariant.is pages are);
}

pub returns : goal.returns
returns c = λ pages are. all_strings_counted pages c.args.notes.now c.loop-i.i c.loop-i.count are (omega (arith, c.loop-i-test.false)) (c.loop-i.invariant.is pages are)
