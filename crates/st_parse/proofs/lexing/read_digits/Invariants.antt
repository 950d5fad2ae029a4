use Rattle.std.proofs.Common.{◌≡◌, ◌++◌, length}
use denote.Text.{Utf8}
use denote.Shadow.{shadow}
use Rattle.std.specs.Str.{chars}
use Rattle.std.specs.String.{string_bytes}
use Rattle.st_parse.specs.Lexemes.{run, after_run}
use Rattle.std.specs.Char.{is_ascii_digit}
use Rattle.st_parse.proofs.lexing.read_digits.Given as goal

abbrev pub invariant-loop-c : goal.invariant-loop-c
invariant-loop-c l = record {
  is_text : shadow (Utf8 l.rest);
  word : string_bytes l.digits ++ (run is_ascii_digit (chars l.rest)) ≡ (run is_ascii_digit (chars l.text));
  left : after_run is_ascii_digit (chars l.rest) ≡ after_run is_ascii_digit (chars l.text);
}

abbrev pub decreases-loop-c : goal.decreases-loop-c
decreases-loop-c l = length l.rest
