use Rattle.std.proofs.Common.{ap, ◌∙◌}
use Rattle.q_lex.specs.Lexing.{opens, word_lexeme}
use Rattle.q_lex.specs.Runs.{run_of}
use Rattle.std.specs.Str.{chars}
use Rattle.q_lex.proofs.scanning.word_at.Goals as goal

pub returns : goal.returns
returns c = record {
  run = run_of c.in_ok-run.run';
  reads = c.in_ok-run.ensures;
  is = c.word_lexeme.ensures ∙ ap (λ b. word_lexeme b c.in_ok-written.written) c.opens-before_open.ensures ∙ ap (λ w. word_lexeme (opens (chars c.in_ok-run.rest.now)) w) c.in_ok-written.ensures;
}
