use Rattle.std.proofs.Common.{◌∙◌}
use Rattle.std.specs.Str.{is_utf8}
use Rattle.std.proofs.lemmas.Str.{is_utf8-from_IsUtf8, IsUtf8-from_is_utf8}
use Rattle.std.proofs.lemmas.Bool.{false_from_ne_true}
use Rattle.tx_settings.proofs.word_reading.text_of.Goals as goal

pub returns-in_ok-of-in-Ok : goal.returns-in_ok-of-in-Ok
returns-in_ok-of-in-Ok c = let h = c.in-Ok.ensures.cases in (c.in_ok-of-in-Ok.ensures ∙ h.0, is_utf8-from_IsUtf8 c.args.bytes.now h.1)

pub returns-in-Err : goal.returns-in-Err
returns-in-Err c = false_from_ne_true (is_utf8 c.args.bytes.now) (λ h. c.in-Err.ensures.cases.0 (IsUtf8-from_is_utf8 c.args.bytes.now h))
