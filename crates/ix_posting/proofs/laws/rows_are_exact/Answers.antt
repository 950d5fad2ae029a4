use Rattle.ix_posting.specs.Forms.{number_form}
use Rattle.ix_posting.specs.laws.Numbers.{numbers_are_read}
use Rattle.ix_posting.specs.laws.Rows.{rows_one, rows_read_back}
use Rattle.ix_posting.proofs.laws.rows_are_exact.Goals as goal

pub returns-clause-one : goal.returns-clause-one
returns-clause-one c = rows_one number_form numbers_are_read

pub returns-clause-read_back : goal.returns-clause-read_back
returns-clause-read_back c = rows_read_back number_form numbers_are_read
