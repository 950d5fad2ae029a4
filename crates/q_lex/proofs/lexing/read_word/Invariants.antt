use Rattle.std.proofs.Common.{length}
use denote.Text.{Utf8}
use denote.Shadow.{shadow}
use Rattle.std.specs.Str.{chars}
use Rattle.q_lex.proofs.WordSteps.{GoesOnAs}
use Rattle.q_lex.specs.Lexing.{no_run}
use Rattle.q_lex.specs.Runs.{NoBraceCloses, run_of}
use Rattle.q_lex.proofs.lexing.read_word.Given as goal

abbrev pub invariant-loop-c : goal.invariant-loop-c
invariant-loop-c l = record {
  is_text : shadow (Utf8 l.rest);
  so_far : GoesOnAs no_run (chars l.text) (run_of l.run) (chars l.rest);
  none : NoBraceCloses l.none_closes (chars l.rest);
}

abbrev pub decreases-loop-c : goal.decreases-loop-c
decreases-loop-c l = length (chars l.rest)
