use Rattle.std.proofs.Common.{◌≡◌, take, FitsSigned, w64}
use Rattle.std.specs.List.{All}
use Rattle.tb_table.specs.Spelling.{row_numbers_bytes}
use Rattle.tb_table.proofs.writing.row_numbers_bytes.Given as goal

abbrev pub invariant-loop-number : goal.invariant-loop-number
invariant-loop-number l = record {
  bytes : l.bytes.items ≡ row_numbers_bytes (take l.number-index l.numbers);
  fit : All (FitsSigned w64) (take l.number-index l.numbers);
}
