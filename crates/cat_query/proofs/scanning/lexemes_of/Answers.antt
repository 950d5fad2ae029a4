use Rattle.std.proofs.Common.{rules, arith, ap, length}
use Rattle.std.specs.Str.{chars}
use Rattle.q_lex.specs.Lexing.{byte_count}
use Rattle.cat_query.specs.Lexing.{query_lexemes}
use Rattle.cat_query.proofs.Scans.{read_shorter, scan_start, scan_blank, scan_lexeme, scan_end, scan_over}
use Rattle.cat_query.proofs.scanning.lexemes_of.Goals as goal

pub loop-c-init : goal.loop-c-init
loop-c-init c = record {
  is_text = search rules;
  within = omega arith;
  few = omega (arith, ap length c.new-found.ensures.items);
  so_far = scan_start (chars c.args.text.now) c.new-found.result.items c.new-found.ensures.items;
}

pub loop-c-preserved-then-is_whitespace : goal.loop-c-preserved-then-is_whitespace
loop-c-preserved-then-is_whitespace c = record {
  is_text = search rules;
  within = omega (arith, c.loop-c.invariant.within, ap byte_count c.in-Some.ensures.chars);
  few = c.loop-c.invariant.few;
  so_far = scan_blank (query_lexemes (chars c.args.text.now)) c.loop-c.found.items (byte_count (chars c.args.text.now)) c.in-Some.c c.loop-c.free (chars c.loop-c.rest.now) (chars c.in-Some.after.now) c.in-Some.ensures.chars (search rules) c.loop-c.invariant.within c.loop-c.invariant.so_far;
}

pub returns-then-len-ge1024 : goal.returns-then-len-ge1024
returns-then-len-ge1024 c =
    let over = scan_over (query_lexemes (chars c.args.text.now)) c.loop-c.found.items _ c.in-Some.c c.loop-c.free (chars c.loop-c.rest.now) (chars c.in-Some.after.now) c.in-Some.ensures.chars (search rules) c.loop-c.invariant.so_far in
    omega (arith, over, c.if-len-ge1024.true, c.len.ensures)

pub loop-c-smaller : goal.loop-c-smaller
loop-c-smaller c = (read_shorter _ c.loop-c.free (chars c.loop-c.rest.now) c.in-Some.c (chars c.in-Some.after.now) (c.in_ok-lexeme.lexeme, chars c.in_ok-lexeme.next.now) c.in-Some.ensures.chars c.in_ok-lexeme.ensures).0

pub loop-c-preserved : goal.loop-c-preserved
loop-c-preserved c =
    let shorter = read_shorter _ c.loop-c.free (chars c.loop-c.rest.now) c.in-Some.c (chars c.in-Some.after.now) (c.in_ok-lexeme.lexeme, chars c.in_ok-lexeme.next.now) c.in-Some.ensures.chars c.in_ok-lexeme.ensures in
    record {
      is_text = search rules;
      within = omega (arith, c.loop-c.invariant.within, shorter.1);
      few = search rules;
      so_far = scan_lexeme (query_lexemes (chars c.args.text.now)) c.loop-c.found.items c.push.new.self.items (byte_count (chars c.args.text.now)) _ c.in-Some.c c.loop-c.free (chars c.loop-c.rest.now) (chars c.in-Some.after.now) c.in_ok-lexeme.lexeme (chars c.in_ok-lexeme.next.now) c.in-Some.ensures.chars (search rules) c.loop-c.invariant.within
          (search rules) c.in_ok-lexeme.ensures c.in_ok-push.ensures.items c.loop-c.invariant.so_far;
    }

pub returns : goal.returns
returns c = (scan_end (query_lexemes (chars c.args.text.now)) c.loop-c.found.items _ c.loop-c.free (chars c.loop-c.rest.now) (search rules) c.loop-c.invariant.so_far, c.loop-c.invariant.few)
