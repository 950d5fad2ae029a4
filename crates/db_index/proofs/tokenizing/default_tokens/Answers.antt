use Rattle.std.proofs.Common.{List, Some, sym, ap, ◌∙◌}
use Rattle.std.proofs.lemmas.Result.{IfOk-weaker}
use Rattle.tx_settings.specs.declared.attributes.Setting.{Setting}
use Rattle.db_state.specs.Effects.{reply_by}
use Rattle.db_index.specs.Tokenizing.{tokens_asked}
use Rattle.db_index.proofs.TokenChecks.{by_default}
use Rattle.db_index.proofs.tokenizing.default_tokens.Goals as goal

pub returns : goal.returns
returns c = λ m.
    let args = c.args.args.now in
    IfOk-weaker c.tokens_asked.result _ _
    (λ reply is. is ∙ ap (λ (ss : List Setting). reply_by (tokens_asked m (Some ss) args)) (c.deref.ensures.value ∙ c.new-settings.ensures.items) ∙ ap reply_by (sym (by_default m args c.requires)))
    (c.tokens_asked.ensures m)
