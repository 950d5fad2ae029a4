use Rattle.tb_table.specs.laws.Spelling.{columns_apart, numbers_apart}
use Rattle.tb_table.proofs.laws.entries_are_exact.Goals as goal

pub returns-clause-columns : goal.returns-clause-columns
returns-clause-columns c = columns_apart

pub returns-clause-numbers : goal.returns-clause-numbers
returns-clause-numbers c = numbers_apart
