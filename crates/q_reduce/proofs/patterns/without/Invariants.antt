use Rattle.std.proofs.Common.{◌≡◌, ◌++◌, length}
use denote.Text.{Utf8}
use denote.Shadow.{shadow}
use Rattle.std.specs.Prelude.{not, filter}
use Rattle.std.specs.Str.{chars}
use Rattle.std.specs.String.{string_bytes}
use Rattle.tx_lexer.specs.CharSets.{has}
use Rattle.q_reduce.proofs.patterns.without.Given as goal

abbrev pub invariant-loop-c : goal.invariant-loop-c
invariant-loop-c l = record {
  is_text : shadow (Utf8 l.rest);
  so_far : chars (string_bytes l.kept) ++ filter (λ c. not (has l.set c)) (chars l.rest) ≡ filter (λ c. not (has l.set c)) (chars l.text);
}

abbrev pub decreases-loop-c : goal.decreases-loop-c
decreases-loop-c l = length l.rest
