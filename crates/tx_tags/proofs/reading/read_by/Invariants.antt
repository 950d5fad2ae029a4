use Rattle.std.proofs.Common.{◌≡◌, ◌≤◌, ◌-◌, ◌+◌, ◌++◌, length}
use denote.Text.{Utf8}
use denote.Shadow.{shadow}
use Rattle.std.specs.Str.{chars}
use Rattle.std.specs.String.{string_bytes}
use Rattle.tx_tags.specs.Tables.{OverTable}
use Rattle.tx_tags.specs.Tags.{tags_from, blanked_from}
use Rattle.tx_tags.proofs.reading.read_by.Given as goal

abbrev pub invariant-loop-c : goal.invariant-loop-c
invariant-loop-c l =
    let place = length l.text - length l.rest in
    record {
      is_text : shadow (Utf8 l.rest);
      within : length l.rest ≤ length l.text;
      long : length (string_bytes l.blanked) + length l.rest ≡ length l.text;
      tags : OverTable l.table.places (λ ts. l.tags.items ++ tags_from ts place (chars l.rest) ≡ tags_from ts 0 (chars l.text));
      blanks : OverTable l.table.places (λ ts. chars (string_bytes l.blanked) ++ blanked_from ts place l.left (chars l.rest) ≡ blanked_from ts 0 0 (chars l.text));
    }

abbrev pub decreases-loop-c : goal.decreases-loop-c
decreases-loop-c l = length l.rest
