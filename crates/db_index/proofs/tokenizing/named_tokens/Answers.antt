use Rattle.std.proofs.Common.{List, Some, sym, ap, ◌∙◌}
use Rattle.tx_settings.specs.declared.attributes.Setting.{Setting}
use Rattle.db_cond.specs.Faults.{UnknownName, refusal_line}
use Rattle.db_state.specs.Effects.{reply_by}
use Rattle.db_index.specs.Tokenizing.{tokens_asked}
use Rattle.db_state.specs.laws.Holding.{holds_preferences}
use Rattle.db_index.proofs.TokenChecks.{badly_named, lexer_unknown, lexer_known}
use Rattle.db_index.proofs.tokenizing.named_tokens.Goals as goal

pub returns-in_default-clause-reply : goal.returns-in_default-clause-reply
returns-in_default-clause-reply g c = λ m k holds stands.
    c.in_ok-tokens_asked.ensures m ∙ ap reply_by (sym (badly_named m c.args.args.now c.requires.more (sym c.in_default.is ∙ c.in_ok-name.ensures)))

pub returns-in_default-2-clause-reply : goal.returns-in_default-2-clause-reply
returns-in_default-2-clause-reply g c = λ m k holds stands.
    let name = c.in-Some.name in
    c.in_ok-fault_line.ensures
    ∙ ap (λ n. refusal_line (UnknownName n)) c.as_str.ensures.text
    ∙ ap reply_by (sym (lexer_unknown m c.args.args.now c.requires.more name (sym c.in-Some.is ∙ c.in_ok-name.ensures) (rw c.in_default-2.is at (c.in_ok-settings.ensures.settings k holds m.preferences (holds_preferences k m stands)))))

pub returns-clause-reply : goal.returns-clause-reply
returns-clause-reply g c = λ m k holds stands.
    let name = c.in-Some.name in
    let args = c.args.args.now in
    let settings = c.in-Some-2.settings.items in
    c.in_ok-tokens_asked-2.ensures m
    ∙ ap (λ (ss : List Setting). reply_by (tokens_asked m (Some ss) args)) c.deref.ensures.value
    ∙ ap reply_by (sym (lexer_known m args c.requires.more name settings (sym c.in-Some.is ∙ c.in_ok-name.ensures) (rw c.in-Some-2.is at (c.in_ok-settings.ensures.settings k holds m.preferences (holds_preferences k m stands)))))
