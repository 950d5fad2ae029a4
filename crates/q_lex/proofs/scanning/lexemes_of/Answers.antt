use Rattle.std.proofs.Common.{rules, arith, ap, length}
use Rattle.std.specs.Str.{chars}
use Rattle.q_lex.specs.Lexing.{byte_count, query_lexemes}
use Rattle.q_lex.proofs.Scans.{scan-start, scan-blank, scan-sign, scan-word, scan-end, scan-over, word-shorter}
use Rattle.q_lex.proofs.Unclosed.{none-start, none-next, none-sign, none-word}
use Rattle.q_lex.proofs.scanning.lexemes_of.Goals as goal

pub loop-c-init : goal.loop-c-init
loop-c-init c = record {
  is_text = search rules;
  within = omega arith;
  none = none-start (chars c.args.text.now);
  few = omega (arith, ap length c.new-found.ensures.items);
  so_far = scan-start (chars c.args.text.now) c.new-found.result.items c.new-found.ensures.items;
}

pub loop-c-preserved-then-is_whitespace : goal.loop-c-preserved-then-is_whitespace
loop-c-preserved-then-is_whitespace c = record {
  is_text = search rules;
  within = omega (arith, c.loop-c.invariant.within, ap byte_count c.in-Some.ensures.chars);
  none = none-next c.loop-c.none_closes (chars c.loop-c.rest.now) (chars c.in-Some.after.now) c.in-Some.c c.loop-c.invariant.none c.in-Some.ensures.chars;
  few = c.loop-c.invariant.few;
  so_far = scan-blank (query_lexemes (chars c.args.text.now)) c.loop-c.found.items (byte_count (chars c.args.text.now)) c.in-Some.c (chars c.loop-c.rest.now) (chars c.in-Some.after.now) c.in-Some.ensures.chars (search rules) c.loop-c.invariant.within c.loop-c.invariant.so_far;
}

pub returns-then-len-ge1024 : goal.returns-then-len-ge1024
returns-then-len-ge1024 c =
    let over = scan-over (query_lexemes (chars c.args.text.now)) c.loop-c.found.items _ c.in-Some.c (chars c.loop-c.rest.now) (chars c.in-Some.after.now) c.in-Some.ensures.chars (search rules) c.loop-c.invariant.so_far in
    omega (arith, over, c.if-len-ge1024.true, c.len.ensures)

pub loop-c-preserved-then-not-begins_word : goal.loop-c-preserved-then-not-begins_word
loop-c-preserved-then-not-begins_word c = record {
  is_text = search rules;
  within = omega (arith, c.loop-c.invariant.within, ap byte_count c.in-Some.ensures.chars);
  none = none-sign c.loop-c.none_closes _ (chars c.loop-c.rest.now) (chars c.in-Some.after.now) c.in-Some.c c.loop-c.invariant.none c.in-Some.ensures.chars (search rules) (search rules);
  few = search rules;
  so_far = scan-sign (query_lexemes (chars c.args.text.now)) c.loop-c.found.items c.push.new.self.items (byte_count (chars c.args.text.now)) _ c.in-Some.c c.sign_lexeme-lexeme.result (chars c.loop-c.rest.now) (chars c.in-Some.after.now) c.in-Some.ensures.chars (search rules) (search rules) c.loop-c.invariant.within
      (search rules) c.sign_lexeme-lexeme.ensures c.in_ok-push.ensures.items c.loop-c.invariant.so_far;
}

pub loop-c-smaller : goal.loop-c-smaller
loop-c-smaller c = (word-shorter _ (chars c.loop-c.rest.now) c.in-Some.c (chars c.in-Some.after.now) c.in_ok-lexeme.lexeme (chars c.in_ok-lexeme.next.now) c.in-Some.ensures.chars c.in_ok-lexeme.ensures (search rules)).0

pub loop-c-preserved : goal.loop-c-preserved
loop-c-preserved c =
    let shorter = word-shorter _ (chars c.loop-c.rest.now) c.in-Some.c (chars c.in-Some.after.now) c.in_ok-lexeme.lexeme (chars c.in_ok-lexeme.next.now) c.in-Some.ensures.chars c.in_ok-lexeme.ensures (search rules) in
    record {
      is_text = search rules;
      within = omega (arith, c.loop-c.invariant.within, shorter.1);
      none = none-word c.loop-c.none_closes _ c.in-Some.c (chars c.loop-c.rest.now) (chars c.in-Some.after.now) c.in_ok-lexeme.lexeme (chars c.in_ok-lexeme.next.now) c.loop-c.invariant.none c.in-Some.ensures.chars c.in_ok-lexeme.ensures (search rules);
      few = search rules;
      so_far = scan-word (query_lexemes (chars c.args.text.now)) c.loop-c.found.items c.push-in-Some.new.self.items (byte_count (chars c.args.text.now)) _ c.in-Some.c c.in_ok-lexeme.lexeme (chars c.loop-c.rest.now) (chars c.in-Some.after.now) (chars c.in_ok-lexeme.next.now) c.in-Some.ensures.chars (search rules) (search rules) c.loop-c.invariant.within
          (search rules) c.in_ok-lexeme.ensures c.in_ok-push-2.ensures.items c.loop-c.invariant.so_far;
    }

pub returns : goal.returns
returns c = (scan-end (query_lexemes (chars c.args.text.now)) c.loop-c.found.items _ (chars c.loop-c.rest.now) (search rules) c.loop-c.invariant.so_far, c.loop-c.invariant.few)
