use Rattle.std.proofs.Common.{List, ℕ, ◌++◌, refl, ap, ◌∙◌, arith}
use Rattle.ct_entry.specs.declared.kinds.Kind.TheVariants as kind
use Rattle.tx_settings.specs.PrefsBytes.{settings_bytes}
use Rattle.tx_settings.specs.laws.Kept.{kept_settings_may_be_written}
use Rattle.tx_prefs.specs.laws.Shapes.{change_shaped}
use Rattle.tx_prefs.proofs.changes.lexer_changes.Goals as goal

pub put_settings-requires-clause-few : goal.put_settings-requires-clause-few
put_settings-requires-clause-few c = (kept_settings_may_be_written c.args.settings.now c.requires).0

pub put_settings-requires-clause-short : goal.put_settings-requires-clause-short
put_settings-requires-clause-short c = (kept_settings_may_be_written c.args.settings.now c.requires).1

pub returns-clause-shaped : goal.returns-clause-shaped
returns-clause-shaped c =
    let whole = c.in_ok-put_settings.ensures.ok ∙ ap (λ (l : List ℕ). l ++ settings_bytes c.args.settings.now) c.new-value.ensures.items in
    change_shaped kind.Preferences c.args.name.now c.put_settings.new.out.items c.in_ok-change.field-0 c.in_ok-change.ensures c.as_str-named.ensures.name refl refl
    (omega (arith, c.len.ensures, c.if-len-gt-VALUE_LIMIT.false))
    (c.args.settings.now, c.requires, whole)
