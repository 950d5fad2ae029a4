use Rattle.std.proofs.Common.{rules}
use Rattle.std.specs.Str.{chars}
use Rattle.rs_result.specs.Lexemes.{lexemes}
use Rattle.rs_result.proofs.Steps.{step-white, step-lexeme, step-none, ends}
use Rattle.rs_result.proofs.lexing.lex.Goals as goal

pub loop-c-preserved-then-is_whitespace : goal.loop-c-preserved-then-is_whitespace
loop-c-preserved-then-is_whitespace c = record {
  is_text = search rules;
  so_far = step-white c.loop-c.found.items _ _ c.in-Some.c (lexemes (chars c.args.text.now)) c.in-Some.ensures.chars (search rules) c.loop-c.invariant.so_far;
}

pub loop-c-preserved : goal.loop-c-preserved
loop-c-preserved c = record {
  is_text = search rules;
  so_far =
      step-lexeme c.loop-c.found.items _ c.in-Some-2.lexeme
      (chars c.loop-c.rest.now) (chars c.in-Some.after.now) (chars c.in-Some-2.next.now) c.in-Some.c (lexemes (chars c.args.text.now)) c.in-Some.ensures.chars
      (search rules) (search rules) (search rules) (search rules) c.loop-c.invariant.so_far;
}

pub returns-in-None : goal.returns-in-None
returns-in-None c = step-none c.loop-c.found.items (chars c.loop-c.rest.now) _ c.in-Some.c (lexemes (chars c.args.text.now)) c.in-Some.ensures.chars (search rules) (search rules) c.loop-c.invariant.so_far

pub returns : goal.returns
returns c = ends c.loop-c.found.items _ (lexemes (chars c.args.text.now)) c.in_default.ensures.chars c.loop-c.invariant.so_far
