use Rattle.std.proofs.Common.{length}
use Rattle.ct_bytes.specs.Varints.{varint}
use Rattle.tb_table.specs.Spelling.{column_bytes}
use Rattle.tb_table.proofs.WriteSteps.{column_written, column_more}
use Rattle.tb_table.proofs.writing.columns_bytes.Goals as goal

pub loop-column-preserved : goal.loop-column-preserved
loop-column-preserved c = record {
  bytes =
      column_written column_bytes c.args.columns.now c.loop-column.column-index c.column-item.result (varint (length c.args.columns.now)) c.loop-column.bytes.items c.put_column.new.out.items c.loop-column.invariant.bytes
      c.loop-column-test.true c.column-item.is c.in_ok-put_column.ensures;
  spellable = column_more c.args.columns.now c.loop-column.column-index c.column-item.result c.loop-column.invariant.spellable c.loop-column-test.true c.column-item.is c.keep_column.ensures;
}
