use Rattle.std.proofs.Common.{rules, subst, sym}
use Rattle.std.specs.Str.{chars}
use Rattle.q_lex.specs.Lexing.{no_run}
use Rattle.q_lex.proofs.WordSteps.{GoesOnAs}
use Rattle.q_lex.specs.Runs.{run_of}
use Rattle.q_lex.proofs.WordSteps.{goes-same, goes-then, goes-plain, goes-escaped, goes-braced, ends-open, ends-none, ends-slash, ends-other, word-ends, never-open, put-smaller}
use Rattle.q_lex.proofs.Unclosed.{none-here, none-next, none-closed}
use Rattle.q_lex.proofs.lexing.read_word.Goals as goal

pub loop-c-init : goal.loop-c-init
loop-c-init c = record {
  is_text = search rules;
  so_far = subst (λ x. GoesOnAs no_run (chars c.args.text.now) x (chars c.args.text.now)) (sym c.no_run-run.ensures) (goes-same no_run (chars c.args.text.now));
  none = c.requires;
}

pub loop-c-preserved-then-is_plain_char : goal.loop-c-preserved-then-is_plain_char
loop-c-preserved-then-is_plain_char c = record {
  is_text = search rules;
  so_far = goes-then no_run (run_of c.loop-c.run) (run_of c.in_ok-run.run') _ (chars c.loop-c.rest.now) _ c.loop-c.invariant.so_far (goes-plain (run_of c.loop-c.run) (run_of c.in_ok-run.run') _ _ c.in-Some.c c.in-Some.ensures.chars (search rules) c.in_ok-run.ensures);
  none = none-next c.args.none_closes (chars c.loop-c.rest.now) (chars c.in-Some.after.now) c.in-Some.c c.loop-c.invariant.none c.in-Some.ensures.chars;
}

pub returns-in-None : goal.returns-in-None
returns-in-None c = word-ends no_run (run_of c.loop-c.run) _ _ c.loop-c.invariant.so_far (ends-slash (run_of c.loop-c.run) _ _ c.in-Some.c c.in-Some.ensures.chars c.in-None.ensures.chars (search rules) (search rules))

pub loop-c-preserved-in-Some-split_first : goal.loop-c-preserved-in-Some-split_first
loop-c-preserved-in-Some-split_first c = record {
  is_text = search rules;
  so_far = goes-then no_run (run_of c.loop-c.run) (run_of c.in_ok-run-in-Some-split_first.run') _ (chars c.loop-c.rest.now) _ c.loop-c.invariant.so_far
      (goes-escaped (run_of c.loop-c.run) (run_of c.in_ok-run-in-Some-split_first.run') _ _ _ c.in-Some.c c.in-Some-split_first.d c.in-Some.ensures.chars c.in-Some-split_first.ensures.chars (search rules) (search rules) c.in_ok-run-in-Some-split_first.ensures);
  none = none-next c.args.none_closes (chars c.in-Some.after.now) _ c.in-Some-split_first.d (none-next c.args.none_closes (chars c.loop-c.rest.now) (chars c.in-Some.after.now) c.in-Some.c c.loop-c.invariant.none c.in-Some.ensures.chars) c.in-Some-split_first.ensures.chars;
}

pub returns-then-c-ne123 : goal.returns-then-c-ne123
returns-then-c-ne123 c = word-ends no_run (run_of c.loop-c.run) _ _ c.loop-c.invariant.so_far (ends-other (run_of c.loop-c.run) _ _ c.in-Some.c c.in-Some.ensures.chars (search rules) (search rules) (search rules))

pub returns-then-not-closes : goal.returns-then-not-closes
returns-then-not-closes c = word-ends no_run (run_of c.loop-c.run) _ _ c.loop-c.invariant.so_far (ends-open (run_of c.loop-c.run) _ _ c.in-Some.c c.in-Some.ensures.chars (search rules) (search rules) (search rules))

pub loop-c-smaller : goal.loop-c-smaller
loop-c-smaller c = put-smaller (run_of c.loop-c.run) (run_of c.in-Some-2.more) _ _ _ c.in-Some.c c.in-Some.ensures.chars (rw c.in-Some-2.is at c.in_ok-more.ensures)

pub loop-c-preserved : goal.loop-c-preserved
loop-c-preserved c = record {
  is_text = search rules;
  so_far = goes-then no_run (run_of c.loop-c.run) (run_of c.in-Some-2.more) _ (chars c.loop-c.rest.now) _ c.loop-c.invariant.so_far
      (goes-braced (run_of c.loop-c.run) (run_of c.in-Some-2.more) _ _ _ c.in-Some.c c.in-Some.ensures.chars (search rules) (search rules) (rw c.in-Some-2.is at c.in_ok-more.ensures));
  none = none-closed c.args.none_closes (chars c.loop-c.rest.now) (chars c.in-Some.after.now) _ c.in-Some.c c.loop-c.invariant.none c.in-Some.ensures.chars (search rules) (search rules);
}

pub unreachable-requires : goal.unreachable-requires
unreachable-requires c = never-open (run_of c.loop-c.run) _ (rw c.in-None-2.is at c.in_ok-more.ensures) (search rules)

pub returns : goal.returns
returns c = word-ends no_run (run_of c.loop-c.run) _ _ c.loop-c.invariant.so_far (ends-none (run_of c.loop-c.run) _ (search rules))

pub closes-requires : goal.closes-requires
closes-requires c = none-here c.args.none_closes (chars c.loop-c.rest.now) (chars c.in-Some.after.now) c.in-Some.c c.loop-c.invariant.none c.in-Some.ensures.chars (search rules)
