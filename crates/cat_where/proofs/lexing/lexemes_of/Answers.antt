use Rattle.std.proofs.Common.{rules, arith, ap, subst, ◌∙◌, length, is_ok, List, Some, None}
use Rattle.std.specs.Str.{chars}
use Rattle.std.proofs.ResultArms.{chosen}
use Rattle.st_parse.specs.declared.lexing.LexFault.{LexFault}
use Rattle.st_parse.specs.Lexemes.{is_in_line, lexeme_at}
use Rattle.st_parse.specs.Reading.{LexFails}
use Rattle.st_parse.proofs.Steps.{after-shorter}
use Rattle.cat_where.specs.declared.lexing.Placed.{Placed}
use Rattle.cat_where.specs.Lexing.{lexed}
use Rattle.cat_where.proofs.Scans.{scan_start, scan_white, scan_comment, scan_lexeme, scan_broken, scan_end}
use Rattle.cat_where.proofs.lexing.lexemes_of.Goals as goal

pub loop-c-init : goal.loop-c-init
loop-c-init c = record {
  is_text = search rules;
  so_far = scan_start (chars c.args.text.now) c.new-lexemes.result.items c.new-lexemes.ensures.items;
}

pub loop-c-preserved-then-is_whitespace : goal.loop-c-preserved-then-is_whitespace
loop-c-preserved-then-is_whitespace c = record {
  is_text = search rules;
  so_far = scan_white (chars c.args.text.now) c.loop-c.lexemes.items _ _ c.in-Some.c (lexed (chars c.args.text.now)) c.in-Some.ensures.chars (search rules) c.loop-c.invariant.so_far;
}

pub loop-c-smaller-then-begins_comment : goal.loop-c-smaller-then-begins_comment
loop-c-smaller-then-begins_comment c =
    omega (arith, ap length c.in-Some.ensures.chars, ap length c.after_line-rest.ensures, after-shorter is_in_line (chars c.in-Some.after.now))

pub loop-c-preserved-then-begins_comment : goal.loop-c-preserved-then-begins_comment
loop-c-preserved-then-begins_comment c = record {
  is_text = search rules;
  so_far = rw c.after_line-rest.ensures (scan_comment (chars c.args.text.now) c.loop-c.lexemes.items _ _ c.in-Some.c (lexed (chars c.args.text.now)) c.in-Some.ensures.chars (search rules) (search rules) c.loop-c.invariant.so_far);
}

pub loop-c-preserved : goal.loop-c-preserved
loop-c-preserved c =
    let pushed = chosen _ _ _ _ c.push.ensures.items (ap is_ok c.in_ok-push-in-Ok.was) in
    record {
      is_text = search rules;
      so_far = scan_lexeme (chars c.args.text.now) c.loop-c.lexemes.items _ _ _ _ c.in-Some.c c.place_in-place.result c.in-Ok.lexeme (lexed (chars c.args.text.now)) c.in-Some.ensures.chars (search rules) (search rules) c.in-Ok.ensures.gives
          c.in-Ok.ensures.shorter c.place_in-place.ensures pushed c.loop-c.invariant.so_far;
    }

pub returns-in-Err-NoLexeme : goal.returns-in-Err-NoLexeme
returns-in-Err-NoLexeme c =
    let none = subst (λ (fault : LexFault). LexFails fault (lexeme_at (chars c.loop-c.rest.now))) c.in-Err-NoLexeme.field-0-is c.in-Err-NoLexeme.ensures.gives in
    ap (λ (x : List Placed). record { lexemes = x; broken = Some c.place_in-place.result }) c.of.ensures
    ∙ scan_broken (chars c.args.text.now) c.loop-c.lexemes.items _ _ c.in-Some.c c.place_in-place.result (lexed (chars c.args.text.now)) c.in-Some.ensures.chars (search rules) (search rules) none c.place_in-place.ensures c.loop-c.invariant.so_far

pub returns : goal.returns
returns c =
    ap (λ (x : List Placed). record { lexemes = x; broken = None }) c.of-2.ensures
    ∙ scan_end (chars c.args.text.now) c.loop-c.lexemes.items _ (lexed (chars c.args.text.now)) c.in_default.ensures.chars c.loop-c.invariant.so_far
