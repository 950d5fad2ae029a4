use Rattle.std.proofs.Common.{IsTrue, ◌↔◌, sym, subst}
use Rattle.std.specs.Prelude.{IfOk}
use Rattle.ct_entry.specs.declared.kinds.Kind.{Kind}
use Rattle.tb_table.specs.Shapes.{IsTableShape}
use Rattle.tb_table.proofs.shapes.is_table_shape.Goals as goal

pub returns-in-RowNumbers : goal.returns-in-RowNumbers
returns-in-RowNumbers c = subst (λ (k : Kind). IfOk c.is_row.result (λ is. IsTrue is ↔ IsTableShape k c.args.part.now c.args.value.now)) (sym c.in-RowNumbers.is) c.is_row.ensures
