use Rattle.std.proofs.Common.{take, ◌-◌, ◌≡◌, ◌*◌, ◌++◌}
use Rattle.ct_base.specs.Zeros.{zeros}
use Rattle.pg_journal.specs.BatchStates.{spelled}
use Rattle.pg_journal.proofs.writing.number_page.Given as goal

abbrev pub invariant-loop-number : goal.invariant-loop-number
invariant-loop-number l = record {
  place : l.at ≡ 4 * l.number-index;
  bytes : l.bytes ≡ spelled (take l.number-index l.numbers) ++ zeros (4096 - 4 * l.number-index);
}
