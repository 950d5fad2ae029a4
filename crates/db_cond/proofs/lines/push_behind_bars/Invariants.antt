use Rattle.std.proofs.Common.{◌≡◌, ◌++◌, take}
use Rattle.db_cond.specs.Lines.{fields_behind_bars}
use Rattle.db_cond.proofs.lines.push_behind_bars.Given as goal

abbrev pub invariant-loop-value : goal.invariant-loop-value
invariant-loop-value l = l.out.items ≡ l.fn.out.items ++ fields_behind_bars (take l.value-index l.values)
