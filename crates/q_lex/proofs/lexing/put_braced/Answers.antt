use Rattle.std.proofs.Common.{rules, ◌∙◌}
use Rattle.q_lex.specs.Runs.{run_of}
use Rattle.q_lex.proofs.Braces.{put-other, put-pair}
use Rattle.q_lex.proofs.lexing.put_braced.Goals as goal

pub loop-c-preserved-then-c-ne125 : goal.loop-c-preserved-then-c-ne125
loop-c-preserved-then-c-ne125 c = record {
  is_text = search rules;
  so_far = put-other (run_of c.loop-c.run) (run_of c.in_ok-run.run') _ _ c.in-Some.c c.in-Some.ensures.chars (search rules) c.in_ok-run.ensures ∙ c.loop-c.invariant.so_far;
}

pub loop-c-preserved : goal.loop-c-preserved
loop-c-preserved c = record {
  is_text = search rules;
  so_far = put-pair (run_of c.loop-c.run) (run_of c.in_ok-run-in-Some-after_brace.run') _ _ _ c.in-Some.c c.in-Some.ensures.chars c.in-Some-after_brace.ensures.brace (search rules) c.in_ok-run-in-Some-after_brace.ensures ∙ c.loop-c.invariant.so_far;
}
