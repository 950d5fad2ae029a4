use Rattle.std.proofs.Common.{◌≡◌}
use Rattle.q_parse.specs.Machine.{state_at, start_state}
use Rattle.q_parse.specs.Verdicts.{verdict_from}
use Rattle.q_parse.specs.Views.{stage_of, frames_of}
use Rattle.q_parse.proofs.reading.read.Given as goal

abbrev pub invariant-loop-placed : goal.invariant-loop-placed
invariant-loop-placed l = verdict_from l.end (state_at (stage_of l.stage) (frames_of l.frames.items)) l.placed-iterator.rest.items ≡ verdict_from l.end start_state l.fn.lexemes.items
