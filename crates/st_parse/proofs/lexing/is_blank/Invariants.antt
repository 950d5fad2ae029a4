use Rattle.std.proofs.Common.{[], length}
use denote.Text.{Utf8}
use denote.Shadow.{shadow}
use Rattle.std.specs.Str.{chars}
use Rattle.st_parse.specs.Lexemes.{lexemes}
use Rattle.st_parse.proofs.Steps.{GoesOn}
use Rattle.st_parse.proofs.lexing.is_blank.Given as goal

abbrev pub invariant-loop-c : goal.invariant-loop-c
invariant-loop-c l = record {
  is_text : shadow (Utf8 l.rest);
  so_far : GoesOn [] (chars l.rest) (lexemes (chars l.text));
}

abbrev pub decreases-loop-c : goal.decreases-loop-c
decreases-loop-c l = length (chars l.rest)
