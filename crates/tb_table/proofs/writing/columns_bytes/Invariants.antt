use Rattle.std.proofs.Common.{◌≡◌, ◌++◌, length, take}
use Rattle.std.specs.List.{All, flat_map}
use Rattle.ct_bytes.specs.Varints.{varint}
use Rattle.tb_table.specs.Readings.{IsSpellable}
use Rattle.tb_table.specs.Spelling.{column_bytes}
use Rattle.tb_table.proofs.writing.columns_bytes.Given as goal

abbrev pub invariant-loop-column : goal.invariant-loop-column
invariant-loop-column l = record {
  bytes : l.bytes.items ≡ varint (length l.columns) ++ flat_map column_bytes (take l.column-index l.columns);
  spellable : All IsSpellable (take l.column-index l.columns);
}
