use Rattle.std.proofs.Common.{ap, ◌∙◌}
use Rattle.std.specs.Str.{chars}
use Rattle.unicode_normalization.specs.Forms.{nfc}
use Rattle.tx_chars.specs.Keys.{folded, bared, key_text}
use Rattle.tx_chars.proofs.Texts.{chars_of}
use Rattle.tx_chars.proofs.keying.full_key.Goals as goal

pub returns : goal.returns
unfolding key_text
returns c =
    let b = c.args.base_letter in
    let m = c.args.mixed_case in
    let decomposed = chars_of c.in_ok-decomposed.decomposed _ c.in_ok-decomposed.ensures in
    let folded_is = c.in_ok-folded.ensures ∙ ap (folded m) decomposed in
    let bared_is = c.in_ok-bared.ensures ∙ ap (bared b) folded_is in
    let composed = ap chars c.as_str-2.ensures.value ∙ chars_of c.in_ok-composed.composed _ c.in_ok-composed.ensures ∙ ap (λ x. nfc (chars x)) c.as_str.ensures.value ∙ ap nfc bared_is in
    rw composed at c.cut.ensures
