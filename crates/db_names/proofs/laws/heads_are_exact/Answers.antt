use Rattle.db_names.specs.laws.Heads.{head_one, head_read, index_on_read, indexes_of_read}
use Rattle.db_names.proofs.laws.heads_are_exact.Goals as goal

pub returns-clause-one : goal.returns-clause-one
returns-clause-one c = head_one

pub returns-clause-by_name : goal.returns-clause-by_name
returns-clause-by_name c = head_read

pub returns-clause-by_target : goal.returns-clause-by_target
returns-clause-by_target c = index_on_read

pub returns-clause-by_table : goal.returns-clause-by_table
returns-clause-by_table c = indexes_of_read
