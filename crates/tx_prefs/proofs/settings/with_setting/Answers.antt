use Rattle.std.proofs.Common.{◌≡◌, true, List, sym, subst}
use Rattle.std.specs.Str.{is_utf8}
use Rattle.std.proofs.lemmas.Bool.{and_from}
use Rattle.std.proofs.lemmas.Result.{IfOk-weaker}
use Rattle.std.proofs.lemmas.Str.{is_utf8-from_IsUtf8}
use Rattle.tx_settings.specs.declared.attributes.Setting.{Setting}
use Rattle.tx_settings.specs.PrefsBytes.{are_lexer_settings, are_settings, is_short}
use Rattle.tx_prefs.specs.laws.Keeps.{settings_kept, taken_kept}
use Rattle.tx_prefs.proofs.settings.with_setting.Goals as goal

pub returns-clause-kept : goal.returns-clause-kept
returns-clause-kept c = λ short are.
    let setting = c.args.setting in
    let text = and_from (is_short setting.value) (is_utf8 setting.value) short (is_utf8-from_IsUtf8 setting.value (rw c.as_str-utf8.ensures at c.as_str-utf8.utf8)) in
    IfOk-weaker c.merged.result _ _ (λ v is. subst (λ (ss : List Setting). are_settings ss ≡ true) (sym is) (settings_kept setting c.args.settings.items text are)) c.merged.ensures

pub returns-clause-taken : goal.returns-clause-taken
returns-clause-taken c = λ takes are.
    let setting = c.args.setting in
    let utf8 = is_utf8-from_IsUtf8 setting.value (rw c.as_str-utf8.ensures at c.as_str-utf8.utf8) in
    IfOk-weaker c.merged.result _ _ (λ v is. subst (λ (ss : List Setting). are_lexer_settings ss ≡ true) (sym is) (taken_kept setting.attribute setting.value c.args.settings.items utf8 takes are)) c.merged.ensures
