use Rattle.ct_bytes.specs.laws.RowKeys.{length-row_bytes, row_bytes_one, row_bytes_in_order}
use Rattle.ct_bytes.proofs.laws.row_keys_are_exact.Goals as goal

pub returns-clause-eight : goal.returns-clause-eight
returns-clause-eight c = length-row_bytes

pub returns-clause-one : goal.returns-clause-one
returns-clause-one c = row_bytes_one

pub returns-clause-order : goal.returns-clause-order
returns-clause-order c = row_bytes_in_order
