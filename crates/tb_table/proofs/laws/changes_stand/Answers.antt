use Rattle.tb_table.specs.laws.Changes.{stand_create, stand_insert}
use Rattle.tb_table.specs.laws.Updates.{stand_update}
use Rattle.tb_table.specs.laws.Removals.{stand_delete, stand_remove}
use Rattle.tb_table.proofs.laws.changes_stand.Goals as goal

pub returns-clause-create : goal.returns-clause-create
returns-clause-create c = stand_create

pub returns-clause-insert : goal.returns-clause-insert
returns-clause-insert c = stand_insert

pub returns-clause-update : goal.returns-clause-update
returns-clause-update c = stand_update

pub returns-clause-delete : goal.returns-clause-delete
returns-clause-delete c = stand_delete

pub returns-clause-remove : goal.returns-clause-remove
returns-clause-remove c = stand_remove
