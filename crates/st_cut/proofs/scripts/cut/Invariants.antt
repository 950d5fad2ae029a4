use Rattle.std.proofs.Common.{length, take}
use Rattle.st_cut.specs.Seen.{Cutting, texts}
use Rattle.st_cut.proofs.scripts.cut.Given as goal

abbrev pub invariant-loop-byte : goal.invariant-loop-byte
invariant-loop-byte l = Cutting (length l.script) (take l.byte-index l.script) (texts l.items.items) l.cutter
