use Rattle.std.proofs.Common.{◌≡◌, ◌++◌, length}
use denote.Text.{Utf8}
use denote.Shadow.{shadow}
use Rattle.std.specs.Option.{option_map}
use Rattle.std.specs.Str.{chars}
use Rattle.std.specs.String.{string_bytes}
use Rattle.tx_tags.specs.Tables.{only_tag}
use Rattle.tx_tags.specs.Tags.{name_before_close}
use Rattle.tx_tags.proofs.spelling.read_name.Given as goal

abbrev pub invariant-loop-c : goal.invariant-loop-c
invariant-loop-c l = record {
  is_text : shadow (Utf8 l.rest);
  same : only_tag (option_map (λ more. string_bytes l.name ++ more) (name_before_close (chars l.rest))) ≡ only_tag (name_before_close (chars l.text));
}

abbrev pub decreases-loop-c : goal.decreases-loop-c
decreases-loop-c l = length l.rest
