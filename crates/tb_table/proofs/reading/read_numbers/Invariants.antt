use Rattle.std.proofs.Common.{◌-◌, length}
use Rattle.tb_table.proofs.NumberSteps.{AreRead}
use Rattle.tb_table.proofs.reading.read_numbers.Given as goal

abbrev pub invariant-numbers : goal.invariant-numbers
invariant-numbers l = AreRead l.bytes l.at l.numbers.items

abbrev pub decreases-numbers : goal.decreases-numbers
decreases-numbers l = length l.bytes - l.at
