use Rattle.std.proofs.Common.{◌∙◌}
use Rattle.std.proofs.lemmas.Result.{IfOk-weaker}
use Rattle.db_prefs.proofs.Plans.{new_lexer, new_stoplist}
use Rattle.db_prefs.proofs.creating.new_batch.Goals as goal

pub returns-in-Lexer-clause-changes : goal.returns-in-Lexer-clause-changes
returns-in-Lexer-clause-changes c =
    IfOk-weaker c.lexer_changes.result _ _ (λ found made. rw c.in-Lexer.is (new_lexer c.args.name.now c.deref.result.now found (c.deref.ensures.value ∙ c.new-settings.ensures.items) made)) c.lexer_changes.ensures.changes

pub returns-in-Stoplist-clause-changes : goal.returns-in-Stoplist-clause-changes
returns-in-Stoplist-clause-changes c =
    IfOk-weaker c.stoplist_changes.result _ _ (λ found made. rw c.in-Stoplist.is (new_stoplist c.args.name.now c.deref-in-Stoplist.result.now found (c.deref-in-Stoplist.ensures.value ∙ c.new-words.ensures.items) made)) c.stoplist_changes.ensures.changes
