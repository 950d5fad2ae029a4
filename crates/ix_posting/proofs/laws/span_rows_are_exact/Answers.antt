use Rattle.ix_posting.specs.Forms.{pair_form}
use Rattle.ix_posting.specs.laws.Pairs.{pairs_are_read}
use Rattle.ix_posting.specs.laws.Rows.{rows_one, rows_read_back}
use Rattle.ix_posting.proofs.laws.span_rows_are_exact.Goals as goal

pub returns-clause-one : goal.returns-clause-one
returns-clause-one c = rows_one pair_form pairs_are_read

pub returns-clause-read_back : goal.returns-clause-read_back
returns-clause-read_back c = rows_read_back pair_form pairs_are_read
