use Rattle.std.proofs.Common.{◌+◌, ◌-◌, ◌≤◌, length}
use denote.Text.{Utf8}
use denote.Shadow.{shadow}
use Rattle.std.specs.Str.{chars}
use Rattle.q_lex.specs.Lexing.{byte_count}
use Rattle.cat_query.specs.Lexing.{query_lexemes}
use Rattle.cat_query.proofs.Scans.{Scanned}
use Rattle.cat_query.proofs.scanning.lexemes_of.Given as goal

abbrev pub invariant-loop-c : goal.invariant-loop-c
invariant-loop-c l = record {
  is_text : shadow (Utf8 l.rest);
  within : byte_count (chars l.rest) ≤ byte_count (chars l.text);
  few : length l.found.items ≤ 1024;
  so_far : Scanned (query_lexemes (chars l.text)) l.found.items (byte_count (chars l.text) - byte_count (chars l.rest) + 1) l.free (chars l.rest);
}

abbrev pub decreases-loop-c : goal.decreases-loop-c
decreases-loop-c l = length (chars l.rest)
