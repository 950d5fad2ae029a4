use Rattle.std.proofs.Common.{◌≡◌, ◌++◌, take}
use Rattle.db_cond.specs.Lines.{printed_text}
use Rattle.db_cond.proofs.lines.push_text.Given as goal

abbrev pub invariant-loop-byte : goal.invariant-loop-byte
invariant-loop-byte l = l.out.items ≡ l.fn.out.items ++ printed_text (take l.byte-index l.text)
