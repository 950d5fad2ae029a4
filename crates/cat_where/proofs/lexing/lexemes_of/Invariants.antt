use Rattle.std.proofs.Common.{length}
use denote.Text.{Utf8}
use denote.Shadow.{shadow}
use Rattle.std.specs.Str.{chars}
use Rattle.cat_where.specs.Lexing.{lexed}
use Rattle.cat_where.proofs.Scans.{Scanned}
use Rattle.cat_where.proofs.lexing.lexemes_of.Given as goal

abbrev pub invariant-loop-c : goal.invariant-loop-c
invariant-loop-c l = record {
  is_text : shadow (Utf8 l.rest);
  so_far : Scanned (chars l.text) l.lexemes.items (chars l.rest) (lexed (chars l.text));
}

abbrev pub decreases-loop-c : goal.decreases-loop-c
decreases-loop-c l = length (chars l.rest)
