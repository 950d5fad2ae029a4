use Rattle.std.proofs.Common.{sym, subst}
use Rattle.std.specs.Str.{chars, IsUtf8}
use Rattle.std.proofs.lemmas.Result.{IfOk-weaker}
use Rattle.std.proofs.lemmas.Str.{scalars-chars}
use Rattle.tx_chars.specs.laws.ScalarKeys.{keys_are_utf8}
use Rattle.q_reduce.proofs.patterns.literal_key.Goals as goal

pub returns-clause-text : goal.returns-clause-text
returns-clause-text c =
    IfOk-weaker c.key.result _ _ (λ k is. subst IsUtf8 (sym is)
    (keys_are_utf8 c.args.ctx.now.lexer.now.base_letter c.args.ctx.now.lexer.now.mixed_case (chars c.as_str.result.now) (scalars-chars c.as_str.result.now c.as_str.utf8))) c.key.ensures
