use Rattle.std.proofs.Common.{◌≡◌, ◌++◌, map, length}
use denote.Text.{Utf8}
use denote.Shadow.{shadow}
use Rattle.std.specs.Str.{chars}
use Rattle.std.specs.Char.{to_ascii_lowercase}
use Rattle.std.specs.String.{string_bytes}
use Rattle.ct_base.specs.Names.{is_name_byte}
use Rattle.st_parse.specs.Lexemes.{run, after_run}
use Rattle.st_parse.proofs.lexing.read_word.Given as goal

abbrev pub invariant-loop-c : goal.invariant-loop-c
invariant-loop-c l = record {
  is_text : shadow (Utf8 l.rest);
  word : string_bytes l.word ++ map to_ascii_lowercase (run is_name_byte (chars l.rest)) ≡ map to_ascii_lowercase (run is_name_byte (chars l.text));
  left : after_run is_name_byte (chars l.rest) ≡ after_run is_name_byte (chars l.text);
}

abbrev pub decreases-loop-c : goal.decreases-loop-c
decreases-loop-c l = length l.rest
