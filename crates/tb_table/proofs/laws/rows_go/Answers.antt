use Rattle.tb_table.specs.laws.Updates.{updated_there}
use Rattle.tb_table.specs.laws.Removals.{row_at-without_row, row_keys-without_row, get-without_table}
use Rattle.tb_table.proofs.laws.rows_go.Goals as goal

pub returns-clause-update : goal.returns-clause-update
returns-clause-update c = updated_there

pub returns-clause-delete : goal.returns-clause-delete
returns-clause-delete c = row_at-without_row

pub returns-clause-keys : goal.returns-clause-keys
returns-clause-keys c = row_keys-without_row

pub returns-clause-remove : goal.returns-clause-remove
returns-clause-remove c = get-without_table
