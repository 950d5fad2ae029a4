use Rattle.std.proofs.lemmas.Result.{err_from_is_err_and}
use Rattle.ct_keep.specs.laws.Composing.{reads_none}
use Rattle.db_state.specs.laws.Serving.{serves_look, serves_short}
use Rattle.db_index.proofs.TokenChecks.{tokens_only_look}
use Rattle.db_index.proofs.tokenizing.policy_tokens.Goals as goal

pub returns-in_err-default_tokens-clause-serves : goal.returns-in_err-default_tokens-clause-serves
returns-in_err-default_tokens-clause-serves g c = serves_short _ _ _ _ _ (reads_none _ c.requires) (err_from_is_err_and _ c.from_residual.ensures.1)

pub returns-then-reads_no_preference-clause-serves : goal.returns-then-reads_no_preference-clause-serves
returns-then-reads_no_preference-clause-serves g c =
    serves_look _ _ _ _ (reads_none _ c.requires) (λ m k holds stands. c.in_ok-default_tokens.ensures m) (λ m. tokens_only_look m c.args.args.now)

pub returns-clause-serves : goal.returns-clause-serves
returns-clause-serves g c =
    serves_look _ _ _ _ c.named_tokens.ensures.reads c.named_tokens.ensures.reply (λ m. tokens_only_look m c.args.args.now)
