use Rattle.std.proofs.Common.{rules, arith, ap, ◌∙◌, length}
use Rattle.std.specs.Str.{chars}
use Rattle.std.specs.String.{string_bytes}
use Rattle.st_parse.specs.Lexemes.{text_at}
use Rattle.st_parse.proofs.Steps.{text-step, text-quote}
use Rattle.st_parse.proofs.lexing.read_text.Goals as goal

pub loop-c-init : goal.loop-c-init
loop-c-init c = record {
  is_text = search rules;
  shorter = omega arith;
  so_far = ap (λ x. text_at x (chars c.args.text.now)) c.new-read.ensures.bytes;
}

pub loop-c-preserved-then-c-ne39 : goal.loop-c-preserved-then-c-ne39
loop-c-preserved-then-c-ne39 c =
    let shorter = c.loop-c.invariant.shorter in
    record {
      is_text = search rules;
      shorter = omega (arith, ap length c.in-Some.ensures.chars);
      so_far = text-step (string_bytes c.loop-c.read) _ _ _ c.in-Some.c c.in-Some.ensures.chars (search rules) c.in_ok-push_char.ensures.bytes ∙ c.loop-c.invariant.so_far;
    }

pub loop-c-preserved : goal.loop-c-preserved
loop-c-preserved c =
    let shorter = c.loop-c.invariant.shorter in
    record {
      is_text = search rules;
      shorter = omega (arith, ap length c.in-Some.ensures.chars, ap length c.in-Some-after_quote.ensures);
      so_far = text-quote (string_bytes c.loop-c.read) _ _ _ _ c.in-Some.c c.in-Some.ensures.chars c.in-Some-after_quote.ensures (search rules) c.in_ok-push_ascii-in-Some-after_quote.ensures.bytes ∙ c.loop-c.invariant.so_far;
    }

pub loop-c-smaller : goal.loop-c-smaller
loop-c-smaller c = omega (arith, ap length c.in-Some.ensures.chars, ap length c.in-Some-after_quote.ensures)
