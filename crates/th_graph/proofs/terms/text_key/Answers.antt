use Rattle.std.proofs.Common.{◌≡◌, ◌≤◌, ℕ, List, [], ◌∷◌, length, true, sym, subst, arith}
use Rattle.std.specs.Prelude.{false, nat_le}
use Rattle.std.specs.Str.{chars, IsUtf8}
use Rattle.std.proofs.lemmas.Bool.{and_parts, leb-true}
use Rattle.std.proofs.lemmas.Result.{IfOk-weaker}
use Rattle.std.proofs.lemmas.Str.{scalars-chars}
use Rattle.ct_base.specs.Limits.{token_limit}
use Rattle.tx_chars.specs.Keys.{key_of}
use Rattle.tx_chars.specs.laws.KeyLimit.{limit}
use Rattle.tx_chars.specs.laws.ScalarKeys.{keys_are_utf8}
use Rattle.th_graph.specs.Terms.{utf8_length, has_length_of_term, IsTerm}
use Rattle.th_graph.proofs.SomeKeys.{key_some}
use Rattle.th_graph.proofs.terms.text_key.Goals as goal

-- a text that has a byte has a character
some_chars : (cs : List ℕ) → 1 ≤ utf8_length cs → 1 ≤ length cs
some_chars [] some = absurd (omega (arith, some))
some_chars (c ∷ cs) some = omega arith

key_is_term : (cs : List ℕ) → has_length_of_term cs ≡ true → IsTerm (key_of false false cs)
key_is_term cs h =
    let parts = and_parts (nat_le 1 (utf8_length cs)) (nat_le (utf8_length cs) token_limit) h in
    record { some = key_some cs (some_chars cs (leb-true 1 (utf8_length cs) parts.0)); short = limit false false cs }

pub returns-clause-term : goal.returns-clause-term
returns-clause-term c =
    IfOk-weaker c.key.result _ _ (λ k is. subst IsTerm (sym is) (key_is_term (chars c.args.text.now) c.requires)) c.key.ensures

pub returns-clause-text : goal.returns-clause-text
returns-clause-text c =
    IfOk-weaker c.key.result _ _ (λ k is. subst IsUtf8 (sym is) (keys_are_utf8 false false (chars c.args.text.now) (scalars-chars c.args.text.now c.utf8.text))) c.key.ensures
