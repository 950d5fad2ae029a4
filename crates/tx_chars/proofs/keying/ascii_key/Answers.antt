use Rattle.std.proofs.Common.{refl, ap, ◌∙◌, sym, ◌≡◌, ℕ, List, map, take, Bool, true, false}
use Rattle.std.proofs.lemmas.List.{take-map}
use Rattle.std.specs.Char.{to_ascii_lowercase}
use Rattle.tx_chars.specs.laws.AsciiKeys.{keys_of_ascii}
use Rattle.tx_chars.specs.KeyLaws.{lowered}
use Rattle.tx_chars.proofs.keying.ascii_key.Goals.{then-mixed_case+in_ok-bytes, else-mixed_case+in_ok-bytes-2}
use Rattle.tx_chars.proofs.keying.ascii_key.Goals as goal

lowered-prefix : (m : Bool) (bs : List ℕ) → lowered m (take 255 bs) ≡ take 255 (lowered m bs)
lowered-prefix true bs = refl
lowered-prefix false bs = sym (take-map to_ascii_lowercase 255 bs)

pub returns : goal.returns
returns c b =
    let bs = c.args.text.now in
    let m = c.args.mixed_case in
    let prefix_is = c.ascii_prefix-prefix.ensures ∙ ap (take 255) c.as_bytes.ensures.value in
    let all : c.if-mixed_case.bytes.items ≡ lowered m (take 255 bs) = elim c.if-mixed_case.branch [
      | then-mixed_case+in_ok-bytes w ↦ rw w.if-mixed_case.true (ap (λ v. v.items) w.bytes-is ∙ w.in_ok-bytes.ensures ∙ prefix_is)
      | else-mixed_case+in_ok-bytes-2 w ↦ rw w.if-mixed_case.false (ap (λ v. v.items) w.bytes-is ∙ w.in_ok-bytes-2.ensures ∙ ap (map to_ascii_lowercase) prefix_is)
    ] in
    c.of.ensures ∙ all ∙ lowered-prefix m bs ∙ sym (keys_of_ascii b m bs c.requires)
