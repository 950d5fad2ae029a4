use Rattle.std.proofs.Common.{◌≡◌, sym, ap, subst, ◌∙◌}
use Rattle.std.proofs.lemmas.Result.{IfOk-weaker}
use Rattle.ct_keep.specs.Looks.{LooksAtMost}
use Rattle.tx_settings.specs.declared.preferences.Prefs.{Prefs}
use Rattle.tx_document.specs.declared.views.DocView.{DocView}
use Rattle.rule_index.specs.Matching.{CanBeScored, document_postings, match_looks, matched}
use Rattle.db_find.specs.Matching.{document_by}
use Rattle.db_find.specs.laws.Looking.{rises_still}
use Rattle.db_state.specs.laws.Contexts.{holds_rule_index}
use Rattle.db_find.proofs.MatchSteps.{can_be_scored}
use Rattle.db_find.proofs.matching.rules_held.Goals as goal

pub matches-requires-clause-document : goal.matches-requires-clause-document
matches-requires-clause-document g c =
    subst CanBeScored (sym c.in_ok-words.ensures) (can_be_scored c.document_laws.ensures c.args.prefs.now c.args.document.now c.keep_rules.ensures c.requires.short)

pub returns-clause-rows : goal.returns-clause-rows
returns-clause-rows g c = λ m k x holds stands there same.
    let words : c.in_ok-words.words ≡ document_by x.prefs c.args.document.now = c.in_ok-words.ensures ∙ ap (λ (p : Prefs). document_by p c.args.document.now) (sym same) in
    IfOk-weaker c.matches.result _ _ (λ rows is. is ∙ ap (λ (d : DocView). matched x (document_postings d)) words)
    (c.matches.ensures.rows k m.tables x holds (holds_rule_index k m stands c.args.index.now x there))

pub returns-in_err-words-clause-rules : goal.returns-in_err-words-clause-rules
returns-in_err-words-clause-rules g c = λ m k x holds stands there same. rises_still _ _

pub returns-clause-rules : goal.returns-clause-rules
returns-clause-rules g c = λ m k x holds stands there same.
    let words : c.in_ok-words.words ≡ document_by x.prefs c.args.document.now = c.in_ok-words.ensures ∙ ap (λ (p : Prefs). document_by p c.args.document.now) (sym same) in
    subst (λ (d : DocView). LooksAtMost g.K.Keeper.view c.args.keeper.now c.matches.new.keeper (match_looks x d)) words
    (c.matches.ensures.at_most k m.tables x holds (holds_rule_index k m stands c.args.index.now x there))
