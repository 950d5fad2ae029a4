use Rattle.tb_table.specs.laws.Rules.{create_keeps, insert_keeps, update_keeps, delete_keeps, remove_keeps}
use Rattle.tb_table.proofs.laws.rules_stay.Goals as goal

pub returns-clause-create : goal.returns-clause-create
returns-clause-create c = create_keeps

pub returns-clause-insert : goal.returns-clause-insert
returns-clause-insert c = insert_keeps

pub returns-clause-update : goal.returns-clause-update
returns-clause-update c = update_keeps

pub returns-clause-delete : goal.returns-clause-delete
returns-clause-delete c = delete_keeps

pub returns-clause-remove : goal.returns-clause-remove
returns-clause-remove c = remove_keeps
