use Rattle.std.proofs.Common.{rules, arith, ap, length, is_ok}
use Rattle.std.specs.Str.{chars}
use Rattle.std.proofs.ResultArms.{chosen}
use Rattle.st_parse.specs.Lexemes.{is_in_line, lexemes}
use Rattle.st_parse.proofs.Steps.{step-white, step-comment, step-lexeme, step-fault, ends, after-shorter}
use Rattle.st_parse.proofs.lexing.lex.Goals as goal

pub loop-c-preserved-then-is_whitespace : goal.loop-c-preserved-then-is_whitespace
loop-c-preserved-then-is_whitespace c = record {
  is_text = search rules;
  so_far = step-white c.loop-c.lexemes.items _ _ c.in-Some.c (lexemes (chars c.args.text.now)) c.in-Some.ensures.chars (search rules) c.loop-c.invariant.so_far;
}

pub loop-c-smaller-then-begins_comment : goal.loop-c-smaller-then-begins_comment
loop-c-smaller-then-begins_comment c =
    omega (arith, ap length c.in-Some.ensures.chars, ap length c.after_line-rest.ensures, after-shorter is_in_line (chars c.in-Some.after.now))

pub loop-c-preserved-then-begins_comment : goal.loop-c-preserved-then-begins_comment
loop-c-preserved-then-begins_comment c = record {
  is_text = search rules;
  so_far = rw c.after_line-rest.ensures (step-comment c.loop-c.lexemes.items _ _ c.in-Some.c (lexemes (chars c.args.text.now)) c.in-Some.ensures.chars (search rules) (search rules) c.loop-c.invariant.so_far);
}

pub loop-c-preserved : goal.loop-c-preserved
loop-c-preserved c =
    let pushed = chosen _ _ _ _ c.push.ensures.items (ap is_ok c.in_ok-push-in-Ok.was) in
    record {
      is_text = search rules;
      so_far = step-lexeme c.loop-c.lexemes.items _ c.in-Ok.lexeme _ _ _ c.in-Some.c (lexemes (chars c.args.text.now)) c.in-Some.ensures.chars (search rules) (search rules) c.in-Ok.ensures.gives c.in-Ok.ensures.shorter pushed c.loop-c.invariant.so_far;
    }

pub returns-in-Err : goal.returns-in-Err
returns-in-Err c =
    step-fault c.loop-c.lexemes.items _ _ c.in-Some.c (lexemes (chars c.args.text.now)) c.in-Err.fault c.in-Some.ensures.chars (search rules) (search rules) c.in-Err.ensures.gives c.loop-c.invariant.so_far

pub returns : goal.returns
returns c = ends c.loop-c.lexemes.items _ _ c.in_default.ensures.chars c.loop-c.invariant.so_far
