use Rattle.std.proofs.Common.{take}
use Rattle.db_console.specs.Views.{Serves}
use Rattle.db_console.proofs.serving.serve_bytes.Given as goal

abbrev pub invariant-loop-byte : goal.invariant-loop-byte
invariant-loop-byte g l = Serves (take l.byte-index l.bytes) (g.K.Keeper.view l.fn.keeper) (g.K.Keeper.view l.keeper) l.fn.cutter l.cutter
