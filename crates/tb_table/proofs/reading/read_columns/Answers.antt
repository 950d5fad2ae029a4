use Rattle.std.proofs.Common.{◌∷◌, [], length-append, arith}
use Rattle.tb_table.proofs.ColumnSteps.{no_count, more_read, stuck, some_left, from_none, from_some}
use Rattle.tb_table.proofs.reading.read_columns.Goals as goal

pub returns-in_default : goal.returns-in_default
returns-in_default c = no_count c.args.bytes.now c.in_default.ensures.none

pub returns-in_default-2 : goal.returns-in_default-2
returns-in_default-2 c =
    stuck c.args.bytes.now c.in-Some.count c.in-Some.start c.columns.at c.columns.columns.items c.in-Some.ensures.some c.columns.invariant.0 (omega arith)
    (from_none c.in_ok-column.field-0 _ c.in_default-2.is c.in_ok-column.ensures.none)

pub columns-preserved : goal.columns-preserved
columns-preserved c =
    let one = length-append c.columns.columns.items (c.in-Some-2.column ∷ []) in
    rw c.in_ok-push.ensures.items (
      more_read c.args.bytes.now c.in-Some.start c.columns.at c.columns.columns.items c.in-Some-2.column c.in-Some-2.next c.columns.invariant.0
          (from_some c.in_ok-column.field-0 _ _ c.in-Some-2.is c.in_ok-column.ensures.some)
          (from_some c.in_ok-column.field-0 _ _ c.in-Some-2.is c.in_ok-column.ensures.within),
      omega (arith, one),
    )

pub returns-else-at-bytes : goal.returns-else-at-bytes
returns-else-at-bytes c =
    let few = c.columns.invariant.1 in
    some_left c.args.bytes.now c.in-Some.count c.in-Some.start c.columns.at c.columns.columns.items c.in-Some.ensures.some c.columns.invariant.0 (omega arith) c.if-at-bytes.false
