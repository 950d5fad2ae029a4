use Rattle.ct_bytes.specs.laws.Numbers.{two_bytes_one, four_bytes_one}
use Rattle.ct_bytes.specs.laws.ByteOrder.{two_bytes_in_order, four_bytes_in_order}
use Rattle.ct_bytes.proofs.laws.numbers_are_exact.Goals as goal

pub returns-clause-two : goal.returns-clause-two
returns-clause-two c = two_bytes_one

pub returns-clause-four : goal.returns-clause-four
returns-clause-four c = four_bytes_one

pub returns-clause-two_order : goal.returns-clause-two_order
returns-clause-two_order c = two_bytes_in_order

pub returns-clause-four_order : goal.returns-clause-four_order
returns-clause-four_order c = four_bytes_in_order
