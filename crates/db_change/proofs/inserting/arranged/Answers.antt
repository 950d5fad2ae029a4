use Rattle.std.proofs.Common.{[], ◌∷◌, ◌++◌, ap, ◌∙◌}
use Rattle.st_parse.specs.declared.statements.Operand.{Operand}
use Rattle.tb_table.specs.declared.columns.Column.{Column}
use Rattle.db_change.specs.Inserting.{value_under}
use Rattle.db_change.proofs.NewValues.{filter_none, filter_some}
use Rattle.db_change.proofs.inserting.arranged.Goals as goal

pub loop-column-preserved-in_default : goal.loop-column-preserved-in_default
loop-column-preserved-in_default c =
    filter_none (λ (d : Column). value_under d.name c.args.names.now c.args.values.now) c.args.columns.now c.loop-column.column-index c.column-item.result c.loop-column.arranged.items
    c.loop-column.invariant c.loop-column-test.true c.column-item.is c.in_default.ensures

pub loop-column-preserved : goal.loop-column-preserved
loop-column-preserved c =
    filter_some (λ (d : Column). value_under d.name c.args.names.now c.args.values.now) c.args.columns.now c.loop-column.column-index c.column-item.result c.loop-column.arranged.items
    c.loop-column.invariant c.loop-column-test.true c.column-item.is c.in-Some.value.now c.push.new.self.items c.in-Some.ensures
    (c.in_ok-push.ensures.items ∙ ap (λ (v : Operand). c.loop-column.arranged.items ++ v ∷ []) c.in_ok-copy_of.ensures)
