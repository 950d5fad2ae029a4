use Rattle.std.proofs.Common.{take}
use Rattle.std.specs.List.{All}
use Rattle.db_change.specs.Inserting.{IsNumberKept, IsTextKept}
use Rattle.db_change.proofs.keeping.keep_values.Given as goal

abbrev pub invariant-loop-value : goal.invariant-loop-value
invariant-loop-value l = record {
  numbers : All IsNumberKept (take l.value-index l.values);
  texts : All IsTextKept (take l.value-index l.values);
}
