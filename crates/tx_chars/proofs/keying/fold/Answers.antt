use Rattle.std.proofs.Common.{◌∙◌, ap}
use Rattle.std.specs.Str.{chars}
use Rattle.caseless.specs.Caseless.{default_case_fold}
use Rattle.tx_chars.proofs.Texts.{chars_of}
use Rattle.tx_chars.proofs.keying.fold.Goals as goal

pub returns : goal.returns
returns c = rw c.if-mixed_case.false (chars_of c.in_ok-folded.folded _ c.in_ok-folded.ensures ∙ ap (λ x. default_case_fold (chars x)) c.as_str.ensures.value)
