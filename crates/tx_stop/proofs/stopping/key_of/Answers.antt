use Rattle.std.proofs.Common.{◌≡◌, ◌≤◌, ℕ, List, length, sym, subst}
use Rattle.std.specs.Prelude.{true}
use Rattle.std.specs.Str.{chars, is_utf8}
use Rattle.std.proofs.lemmas.Result.{IfOk-weaker}
use Rattle.std.proofs.lemmas.Str.{is_utf8-from_IsUtf8, scalars-chars}
use Rattle.ct_base.specs.Limits.{token_limit}
use Rattle.tx_chars.specs.laws.KeyLimit.{limit}
use Rattle.tx_chars.specs.laws.ScalarKeys.{keys_are_utf8}
use Rattle.tx_stop.proofs.stopping.key_of.Goals as goal

pub returns-clause-short : goal.returns-clause-short
returns-clause-short c =
    IfOk-weaker c.key.result _ _ (λ k is. subst (λ (l : List ℕ). length l ≤ token_limit) (sym is) (limit c.args.base_letter c.args.mixed_case (chars c.as_str.result.now))) c.key.ensures

pub returns-clause-text : goal.returns-clause-text
returns-clause-text c =
    IfOk-weaker c.key.result _ _ (λ k is. subst (λ (l : List ℕ). is_utf8 l ≡ true) (sym is)
    (is_utf8-from_IsUtf8 _ (keys_are_utf8 c.args.base_letter c.args.mixed_case (chars c.as_str.result.now) (scalars-chars c.as_str.result.now c.as_str.utf8)))) c.key.ensures
