use Rattle.std.proofs.Common.{◌≡◌, ◌++◌}
use Rattle.std.specs.List.{All}
use Rattle.ct_entry.specs.Changes.{spell}
use Rattle.tb_table.specs.Shapes.{IsTextEntry}
use Rattle.tb_table.specs.Spelling.{row_text_changes}
use Rattle.tb_table.proofs.changes.put_texts.Given as goal

abbrev pub invariant-loop-column : goal.invariant-loop-column
invariant-loop-column l = record {
  changes : l.batch ++ spell (row_text_changes l.table l.key.0 l.column-iterator.rest.items) ≡ l.fn.batch ++ spell (row_text_changes l.table l.key.0 l.fn.texts.items);
  texts : All IsTextEntry l.column-iterator.rest.items → All IsTextEntry l.fn.texts.items;
}
