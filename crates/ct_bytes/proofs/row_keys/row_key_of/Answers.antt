use Rattle.std.proofs.Common.{◌≡◌, ap, ◌∙◌, rules, FitsSigned}
use Rattle.std.specs.Int.{to_be_bytes, cast_unsigned, cast_signed, w64}
use Rattle.std.proofs.lemmas.Int.{to_z-of_z}
use Rattle.std.proofs.lemmas.Nat.{be_bytes_8}
use Rattle.ct_bytes.specs.RowKeys.{row_bytes, sign_turned}
use Rattle.ct_bytes.proofs.RowKeySteps.{turned_back}
use Rattle.ct_bytes.proofs.row_keys.row_key_of.Goals as goal

pub returns : goal.returns
unfolding row_bytes
returns c =
    let fits : FitsSigned w64 c.cast_signed.result = search rules in
    let is : sign_turned (cast_signed w64 (cast_unsigned w64 c.cast_signed.result)) ≡ c.from_be_bytes-raised.result =
    ap sign_turned (to_z-of_z w64 c.cast_signed.result fits ∙ c.cast_signed.ensures) ∙ turned_back c.from_be_bytes-raised.result c.from_be_bytes-raised.type_inv in
    ap (to_be_bytes w64) is ∙ be_bytes_8 c.args.bytes _ (search rules) (search rules) c.from_be_bytes-raised.ensures
