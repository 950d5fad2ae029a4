use Rattle.std.proofs.Common.{◌≡◌, length}
use denote.Text.{Utf8}
use denote.Shadow.{shadow}
use Rattle.std.specs.Str.{chars}
use Rattle.q_lex.specs.Lexing.{braced, put_in}
use Rattle.q_lex.specs.Runs.{run_of}
use Rattle.q_lex.proofs.lexing.put_braced.Given as goal

abbrev pub invariant-loop-c : goal.invariant-loop-c
invariant-loop-c l = record {
  is_text : shadow (Utf8 l.rest);
  so_far : put_in (run_of l.run) (braced (chars l.rest)) ≡ put_in (run_of l.fn.run) (braced (chars l.text));
}

abbrev pub decreases-loop-c : goal.decreases-loop-c
decreases-loop-c l = length l.rest
