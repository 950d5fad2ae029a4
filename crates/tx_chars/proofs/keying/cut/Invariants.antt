use Rattle.std.proofs.Common.{◌≡◌, ◌++◌, length}
use denote.Text.{Utf8}
use denote.Shadow.{shadow}
use Rattle.std.specs.Str.{chars}
use Rattle.std.specs.String.{string_bytes}
use Rattle.ct_base.specs.Limits.{token_limit}
use Rattle.tx_chars.specs.Keys.{cut_at}
use Rattle.tx_chars.proofs.keying.cut.Given as goal

abbrev pub invariant-loop-c : goal.invariant-loop-c
invariant-loop-c l = record {
  is_text : shadow (Utf8 l.rest);
  so_far : string_bytes l.kept ++ cut_at l.room (chars l.rest) ≡ cut_at token_limit (chars l.text);
}

abbrev pub decreases-loop-c : goal.decreases-loop-c
decreases-loop-c l = length l.rest
