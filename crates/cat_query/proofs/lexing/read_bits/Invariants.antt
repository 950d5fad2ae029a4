use Rattle.std.proofs.Common.{◌≡◌, ◌++◌, [], length}
use denote.Text.{Utf8}
use denote.Shadow.{shadow}
use Rattle.std.specs.Str.{chars}
use Rattle.std.specs.String.{string_bytes}
use Rattle.cat_query.specs.Lexing.{after_run, bits_from, run}
use Rattle.cat_query.proofs.lexing.read_bits.Given as goal

abbrev pub invariant-loop-c : goal.invariant-loop-c
invariant-loop-c l = record {
  is_text : shadow (Utf8 l.rest);
  bits : l.bits.items ++ bits_from (string_bytes l.chars) (run (chars l.rest)) ≡ bits_from [] (run (chars l.text));
  rest : after_run (chars l.rest) ≡ after_run (chars l.text);
}

abbrev pub decreases-loop-c : goal.decreases-loop-c
decreases-loop-c l = length (chars l.rest)
