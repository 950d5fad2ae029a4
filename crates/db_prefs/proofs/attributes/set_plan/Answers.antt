use Rattle.std.proofs.Common.{◌≡◌, true, List, sym, ap, subst, ◌∙◌}
use Rattle.std.proofs.lemmas.Option.{MatchOption-at_none, MatchOption-at_some}
use Rattle.ct_entry.specs.Changes.{spell}
use Rattle.tx_settings.specs.declared.attributes.Setting.{Setting}
use Rattle.tx_settings.specs.PrefsBytes.{are_settings, are_lexer_settings}
use Rattle.tx_prefs.specs.Spelling.{lexer_changes}
use Rattle.db_prefs.proofs.Plans.{attribute_planned, found_some, of_preferences, settings_fit}
use Rattle.db_prefs.proofs.attributes.set_plan.Goals as goal

pub lexer_changes-requires : goal.lexer_changes-requires
lexer_changes-requires c = subst (λ (ss : List Setting). are_settings ss ≡ true) (sym c.deref.ensures.value) (c.in_ok-settings.ensures.kept c.requires.short c.requires.are)

pub returns-in_default-clause-plan : goal.returns-in_default-clause-plan
returns-in_default-clause-plan c = λ m k stands there.
    let kept = c.in_ok-settings.ensures.taken c.requires.takes (stands.state.preferences.lexers.each c.args.name.now c.args.settings.items there) in
    absurd (settings_fit c.deref.result.now (subst (λ (ss : List Setting). are_lexer_settings ss ≡ true) (sym c.deref.ensures.value) kept) (MatchOption-at_none _ _ c.in_default.is c.in_ok-batch.ensures.changes))

pub returns-clause-plan : goal.returns-clause-plan
returns-clause-plan c = λ m k stands there.
    let kept = c.in_ok-settings.ensures.taken c.requires.takes (stands.state.preferences.lexers.each c.args.name.now c.args.settings.items there) in
    attribute_planned k m c.args.name.now c.in-Some.batch stands c.args.setting c.args.settings.items there
    (subst (λ (ss : List Setting). are_lexer_settings ss ≡ true) c.in_ok-settings.ensures.setting kept)
    (MatchOption-at_some _ _ c.in-Some.batch c.in-Some.is c.in_ok-batch.ensures.changes ∙ ap (λ (ss : List Setting). spell (lexer_changes c.args.name.now ss)) (c.deref.ensures.value ∙ c.in_ok-settings.ensures.setting))

pub returns-clause-entries : goal.returns-clause-entries
returns-clause-entries c = of_preferences c.in-Some.batch (found_some _ c.in-Some.batch _ c.in-Some.is c.in_ok-batch.ensures.shaped)
