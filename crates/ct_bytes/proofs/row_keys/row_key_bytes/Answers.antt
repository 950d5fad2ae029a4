use Rattle.std.proofs.Common.{◌≡◌, ◌+◌, ◌%◌, ◌^◌, ap, ◌∙◌, rules, FitsSigned}
use Rattle.std.specs.Int.{to_be_bytes, cast_unsigned, w64}
use Rattle.std.proofs.lemmas.Int.{to_z-of_z}
use Rattle.ct_bytes.specs.RowKeys.{row_bytes, sign_turned}
use Rattle.ct_bytes.proofs.RowKeySteps.{turned}
use Rattle.ct_bytes.proofs.row_keys.row_key_bytes.Goals as goal

pub returns : goal.returns
unfolding row_bytes
returns c =
    let fits : FitsSigned w64 c.args.key.0 = search rules in
    let bits : c.cast_unsigned-raised.result ≡ cast_unsigned w64 c.args.key.0 = c.cast_unsigned-raised.ensures ∙ ap (cast_unsigned w64) (to_z-of_z w64 c.args.key.0 fits) in
    let is : (c.cast_unsigned-raised.result + 2 ^ 63) % 2 ^ 64 ≡ sign_turned c.args.key.0 = ap (λ u. (u + 2 ^ 63) % 2 ^ 64) bits ∙ turned c.args.key.0 fits in
    c.to_be_bytes.ensures ∙ ap (to_be_bytes w64) is
