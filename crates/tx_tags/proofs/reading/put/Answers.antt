use Rattle.std.proofs.Common.{◌+◌, ap, ◌∙◌, length, length-append}
use Rattle.std.specs.Char.{encode_utf8}
use Rattle.std.specs.String.{string_bytes}
use Rattle.std.proofs.lemmas.Str.{length-encode}
use Rattle.std.proofs.lemmas.Result.{on_ok_weaker}
use Rattle.tx_tags.proofs.reading.put.Goals as goal

pub returns-then-left-eq0-clause-length : goal.returns-then-left-eq0-clause-length
returns-then-left-eq0-clause-length c =
    on_ok_weaker c.push_char.result (λ e. ap length e ∙ length-append (string_bytes c.args.blanked.now) (encode_utf8 c.args.c) ∙ ap (λ n. length (string_bytes c.args.blanked.now) + n) (length-encode c.args.c)) c.push_char.ensures.bytes
