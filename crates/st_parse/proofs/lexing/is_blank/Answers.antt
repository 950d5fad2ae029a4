use Rattle.std.proofs.Common.{rules, arith, ap, length, []}
use Rattle.std.specs.Str.{chars}
use Rattle.st_parse.specs.Lexemes.{is_in_line, lexemes}
use Rattle.st_parse.proofs.Steps.{step-white, step-comment, other_place, ends, after-shorter}
use Rattle.st_parse.proofs.lexing.is_blank.Goals as goal

pub loop-c-preserved-then-is_whitespace : goal.loop-c-preserved-then-is_whitespace
loop-c-preserved-then-is_whitespace c = record {
  is_text = search rules;
  so_far = step-white [] _ _ c.in-Some.c (lexemes (chars c.args.text.now)) c.in-Some.ensures.chars (search rules) c.loop-c.invariant.so_far;
}

pub returns-then-not-begins_comment : goal.returns-then-not-begins_comment
returns-then-not-begins_comment c =
    (λ t. cc, λ none. absurd (other_place _ _ c.in-Some.c (lexemes (chars c.args.text.now)) c.in-Some.ensures.chars (search rules) (search rules) c.loop-c.invariant.so_far none))

pub loop-c-smaller : goal.loop-c-smaller
loop-c-smaller c = omega (arith, ap length c.in-Some.ensures.chars, ap length c.after_line-rest.ensures, after-shorter is_in_line (chars c.in-Some.after.now))

pub loop-c-preserved : goal.loop-c-preserved
loop-c-preserved c = record {
  is_text = search rules;
  so_far = rw c.after_line-rest.ensures (step-comment [] _ _ c.in-Some.c (lexemes (chars c.args.text.now)) c.in-Some.ensures.chars (search rules) (search rules) c.loop-c.invariant.so_far);
}

pub returns : goal.returns
returns c = (λ t. ends [] _ (lexemes (chars c.args.text.now)) c.in_default.ensures.chars c.loop-c.invariant.so_far, λ none. search rules)
